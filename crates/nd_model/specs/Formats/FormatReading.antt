-- Format strings: which type a text and an item size mean, or which fault they have. From PEP 3118 and NumPy's reading of it.
use Rattle.std.specs.Prelude.{◌≡◌, ◌↔◌, ℕ, ◌+◌, ◌-◌, ◌*◌, ◌/◌, ◌^◌, min, ◌==◌, nat_lt, Bool, true, false, ◌||◌, ◌&&◌, not, if◌then◌else◌, List, [], ◌∷◌, ◌++◌, length, map, slice_get, Option, Some, None, Result, Ok, Err}
use Rattle.std.specs.Str.{is_utf8}
use Rattle.nd_model.specs.Arrays.Element.{Kind, Boolean, Int8, Int16, Int32, Int64, UInt8, UInt16, UInt32, UInt64, Element, size_of}
use Rattle.nd_model.specs.Arrays.View.{Field, ElementType, One, Structure}
use Rattle.nd_model.specs.Arrays.Structure.{has_name, is_structure}
use Rattle.nd_model.specs.Formats.Rules.{Part}
use Rattle.nd_model.specs.Formats.Judging.{ComesTo, judged}
use Rattle.nd_model.specs.Formats.FormatFault.{FormatFault, UnknownCode, Unclosed, NoName, DoubleName, CountNotHere, LargerThanItem, TooManyFields, BadItemSize}
use Rattle.nd_model.specs.Formats.FormatGrammar.{byte_kind, is_digit, format, ORDER_ROLE, SINGLE_ROLE, CODE_ROLE, COLON_ROLE, NAME_ROLE, NAME_END_ROLE, DIGIT_ROLE, PAD_ROLE, OPEN_ROLE, CLOSE_ROLE, SPACE_ROLE}

-- ---- what was read of a format

pub record Progress : Type 0 where
  -- the order character that holds
  pub order : ℕ
  pub fields : List Field
  -- where the last item ends
  pub behind : ℕ
  pub count : ℕ
  -- where the count or the name begins in the text
  pub place : ℕ
  -- the code of the field that is read, or of a single number
  pub code : ℕ
  pub name : List ℕ
  -- whether the text is inside `T{`
  pub inside : Bool
  -- the role of the last byte
  pub last : ℕ

-- at the start `@` holds
abbrev pub start : Progress
start = record { order = 64; fields = []; behind = 0; count = 0; place = 0; code = 0; name = []; inside = false; last = SPACE_ROLE }

-- Numbers behind this one all come to the same, since an item size is less.
abbrev pub FAR : ℕ
FAR = 2 ^ 64

-- the same of the place of a field, since a structure has at most so many bytes
abbrev pub FAR_FIELD : ℕ
FAR_FIELD = 65536

-- `l` and `L` have 8 bytes under `@` and `^`, and else 4
abbrev pub is_long : ℕ → Bool
is_long order = order == 64 || order == 94

-- the kind of number of a code under an order character
abbrev pub code_kind : (order code : ℕ) → Kind
code_kind order code =
    if code == 63 then Boolean
    else (if code == 98 then Int8
    else (if code == 66 then UInt8
    else (if code == 104 then Int16
    else (if code == 72 then UInt16
    else (if code == 105 || (code == 108 && not (is_long order)) then Int32
    else (if code == 73 || (code == 76 && not (is_long order)) then UInt32
    else (if code == 113 || code == 108 then Int64 else UInt64)))))))

-- `>` and `!` have the highest byte first
abbrev pub code_element : (order code : ℕ) → Element
code_element order code = let k = code_kind order code in record { kind = k; big = (order == 62 || order == 33) && nat_lt 1 (size_of k) }

-- the next multiple of the size from the place on
abbrev pub align : (place size : ℕ) → ℕ
align place size = (place + size - 1) / size * size

-- where a number begins, behind the last item: under `@` at a multiple of its size
abbrev pub number_start : (order behind size : ℕ) → ℕ
number_start order behind size = if order == 64 then align behind size else behind

-- ---- what a byte does in its role

abbrev pub add_field : Progress → Progress
add_field s =
    let e = code_element s.order s.code in
    let at = number_start s.order s.behind (size_of e.kind) in
    record s {
      fields = s.fields ++ record { name = s.name; at = min at FAR_FIELD; element = e } ∷ [];
      behind = min (at + size_of e.kind) FAR;
      name = [];
      last = NAME_END_ROLE;
    }

abbrev pub end_name : Progress → Result Progress FormatFault
end_name s =
    if not (is_utf8 s.name) then Err (NoName s.place)
    else (if has_name s.name s.fields then Err (DoubleName s.place) else Ok (add_field s))

-- A digit behind another goes on with its count.
abbrev pub add_digit : Progress → (at byte : ℕ) → Progress
add_digit s at b =
    let first = not (s.last == DIGIT_ROLE) in
    record s {
      count = min ((if first then 0 else 10 * s.count) + (b - 48)) FAR;
      place = (if first then at else s.place);
      last = DIGIT_ROLE;
    }

-- A pad without a count is one byte.
abbrev pub add_pad : Progress → Progress
add_pad s = record s { behind = min (s.behind + (if s.last == DIGIT_ROLE then s.count else 1)) FAR; last = PAD_ROLE }

-- A field's name begins behind its code and a colon.
abbrev pub begin_field : Progress → (at byte : ℕ) → Result Progress FormatFault
begin_field s at b =
    if length s.fields == 256 then Err TooManyFields
    else Ok (record s { code = b; name = []; place = at + 2; last = CODE_ROLE })

abbrev pub add_name_byte : Progress → ℕ → Result Progress FormatFault
add_name_byte s b = if length s.name == 64 then Err (NoName s.place) else Ok (record s { name = s.name ++ b ∷ []; last = NAME_ROLE })

abbrev pub take_byte : Progress → (at role byte : ℕ) → Result Progress FormatFault
take_byte s at role b =
    if role == ORDER_ROLE then Ok (record s { order = b; last = role })
    else (if role == DIGIT_ROLE then Ok (add_digit s at b)
    else (if role == PAD_ROLE then Ok (add_pad s)
    else (if role == OPEN_ROLE then Ok (record s { inside = true; last = role })
    else (if role == CLOSE_ROLE then Ok (record s { inside = false; last = role })
    else (if role == SINGLE_ROLE then Ok (record s { code = b; last = role })
    else (if role == CODE_ROLE then begin_field s at b
    else (if role == NAME_ROLE then add_name_byte s b
    else (if role == NAME_END_ROLE then end_name s
    else Ok (record s { last = role })))))))))

abbrev pub and_then : Result Progress FormatFault → (Progress → Result Progress FormatFault) → Result Progress FormatFault
and_then (Ok s) f = f s
and_then (Err e) f = Err e

-- the bytes from a place on, in their roles
abbrev pub take_bytes : Progress → (at : ℕ) → (roles bytes : List ℕ) → Result Progress FormatFault
take_bytes s at [] bs = Ok s
take_bytes s at (r ∷ rs) [] = Ok s
take_bytes s at (r ∷ rs) (b ∷ bs) = and_then (take_byte s at r b) (λ t. take_bytes t (at + 1) rs bs)

-- ---- what all comes to

-- the fault where a byte continues no format; none is the end of the text
abbrev pub stop_fault : Progress → (at : ℕ) → Option ℕ → FormatFault
stop_fault s at None = if s.inside then Unclosed at else UnknownCode at
stop_fault s at (Some b) =
    if s.last == DIGIT_ROLE then CountNotHere s.place
    else (if s.last == CODE_ROLE then NoName at
    else (if s.last == COLON_ROLE || s.last == NAME_ROLE then NoName s.place
    else (if is_digit b then CountNotHere at else UnknownCode at)))

abbrev pub number_type : Element → (size : ℕ) → Result ElementType FormatFault
number_type e size =
    if nat_lt size (size_of e.kind) then Err LargerThanItem
    else (if size == size_of e.kind then Ok (One e) else Err BadItemSize)

abbrev pub whole_type : Progress → (size : ℕ) → Result ElementType FormatFault
whole_type s size =
    if s.last == SINGLE_ROLE then number_type (code_element s.order s.code) size
    else (if nat_lt size s.behind then Err LargerThanItem
    else (if is_structure s.fields size then Ok (Structure s.fields size) else Err BadItemSize))

-- of the whole text, or of a front with the byte behind it
abbrev pub type_or_fault : Result Progress FormatFault → (whole : Bool) → (size at : ℕ) → Option ℕ → Result ElementType FormatFault
type_or_fault (Err f) whole size at next = Err f
type_or_fault (Ok s) true size at next = whole_type s size
type_or_fault (Ok s) false size at next = Err (stop_fault s at next)

-- what the text comes to where these are the roles of its longest front
abbrev pub outcome : (roles : List ℕ) → (whole : Bool) → (text : List ℕ) → (size : ℕ) → Result ElementType FormatFault
outcome roles whole text size = type_or_fault (take_bytes start 0 roles text) whole size (length roles) (slice_get text (length roles))

abbrev pub judge : (text : List ℕ) → (size : ℕ) → List Part → Bool → Result ElementType FormatFault
judge text size ps whole = outcome (map (λ (p : Part). p.role) ps) whole text size

-- THE MEANING: the text with this item size comes to this type, or has this fault
abbrev pub ReadsAs : (text : List ℕ) → (size : ℕ) → Result ElementType FormatFault → Type 0
ReadsAs text size x = ComesTo format (map byte_kind text) (judge text size) x

-- the same, computed
unfoldable pub read_format : (text : List ℕ) → (size : ℕ) → Result ElementType FormatFault
read_format text size = judged format (map byte_kind text) (judge text size)

-- ---- the laws

-- no text comes to two types, to two faults, or to both
abbrev pub OneMeaning : Type 0
OneMeaning = (text : List ℕ) (size : ℕ) (x y : Result ElementType FormatFault) → ReadsAs text size x → ReadsAs text size y → x ≡ y

-- what is computed is what the grammar says
abbrev pub ReadingIsExact : Type 0
ReadingIsExact = (text : List ℕ) (size : ℕ) (x : Result ElementType FormatFault) → (read_format text size ≡ x) ↔ ReadsAs text size x
