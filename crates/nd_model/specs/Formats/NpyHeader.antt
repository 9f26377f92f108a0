-- The header of an NPY file: a dictionary literal of `descr`, `fortran_order` and `shape`. From NumPy's description of the format.
use Rattle.std.specs.Prelude.{◌≡◌, ℕ, ◌+◌, ◌-◌, ◌*◌, ◌/◌, ◌%◌, ◌^◌, min, ◌==◌, nat_lt, nat_le, nat_eq, Bool, true, false, ◌||◌, ◌&&◌, not, option_to_list, if◌then◌else◌, List, [], ◌∷◌, ◌++◌, length, map, codes, Option, Some, None, Result, Ok, Err}
use Rattle.std.specs.List.{starts_with}
use Rattle.std.specs.Str.{is_utf8}
use Rattle.nd_model.specs.Arrays.Element.{Element, size_of}
use Rattle.nd_model.specs.Arrays.View.{Field, ElementType, One, Structure}
use Rattle.nd_model.specs.Arrays.Structure.{is_structure}
use Rattle.nd_model.specs.Arrays.Types.{or_coded}
use Rattle.nd_model.specs.Formats.Rules.{Rule, Nothing, Then, Or, Many, Part}
use Rattle.nd_model.specs.Formats.Rules as rules
use Rattle.nd_model.specs.Formats.Judging.{ComesTo, judged}
use Rattle.nd_model.specs.Formats.NpyFault.{NpyFault, BadHeader, BadKeys, BadDescr}

-- ---- kinds of bytes: those of a quote tell which key stands behind it, and that of a comma whether a quote comes next

abbrev pub single_other : ℕ
single_other = 0

abbrev pub single_descr : ℕ
single_descr = 1

abbrev pub single_fortran : ℕ
single_fortran = 2

abbrev pub single_shape : ℕ
single_shape = 3

abbrev pub double_other : ℕ
double_other = 4

abbrev pub double_descr : ℕ
double_descr = 5

abbrev pub double_fortran : ℕ
double_fortran = 6

abbrev pub double_shape : ℕ
double_shape = 7

abbrev pub open_brace : ℕ
open_brace = 8

abbrev pub close_brace : ℕ
close_brace = 9

abbrev pub open_bracket : ℕ
open_bracket = 10

abbrev pub close_bracket : ℕ
close_bracket = 11

abbrev pub open_parenthesis : ℕ
open_parenthesis = 12

abbrev pub close_parenthesis : ℕ
close_parenthesis = 13

abbrev pub colon : ℕ
colon = 14

abbrev pub comma_before_quote : ℕ
comma_before_quote = 15

abbrev pub other_comma : ℕ
other_comma = 16

abbrev pub space : ℕ
space = 17

-- a tab or a newline
abbrev pub line_space : ℕ
line_space = 18

abbrev pub zero_digit : ℕ
zero_digit = 19

abbrev pub other_digit : ℕ
other_digit = 20

abbrev pub capital_t : ℕ
capital_t = 21

abbrev pub letter_r : ℕ
letter_r = 22

abbrev pub letter_u : ℕ
letter_u = 23

abbrev pub letter_e : ℕ
letter_e = 24

abbrev pub capital_f : ℕ
capital_f = 25

abbrev pub letter_a : ℕ
letter_a = 26

abbrev pub letter_l : ℕ
letter_l = 27

abbrev pub letter_s : ℕ
letter_s = 28

abbrev pub other_byte : ℕ
other_byte = 29

-- the text begins with the word and this quote
abbrev pub starts : List ℕ → List ℕ → ℕ → Bool
starts text word quote = starts_with nat_eq text (word ++ quote ∷ [])

-- one of four kinds of a quote, by the key that stands behind it
abbrev pub by_key : (quote : ℕ) → List ℕ → (other descr fortran shape : ℕ) → ℕ
by_key quote rest other descr fortran shape =
    if starts rest (codes "descr") quote then descr
    else (if starts rest (codes "fortran_order") quote then fortran
    else (if starts rest (codes "shape") quote then shape else other))

-- a quote comes next, behind any spaces
abbrev pub quote_ahead : List ℕ → Bool
quote_ahead [] = false
quote_ahead (b ∷ bs) = if b == 32 then quote_ahead bs else b == 39 || b == 34

-- the kind of a byte before these bytes
abbrev pub kind_of : ℕ → List ℕ → ℕ
kind_of b rest =
    if b == 39 then by_key 39 rest single_other single_descr single_fortran single_shape
    else (if b == 34 then by_key 34 rest double_other double_descr double_fortran double_shape
    else (if b == 123 then open_brace
    else (if b == 125 then close_brace
    else (if b == 91 then open_bracket
    else (if b == 93 then close_bracket
    else (if b == 40 then open_parenthesis
    else (if b == 41 then close_parenthesis
    else (if b == 58 then colon
    else (if b == 44 then (if quote_ahead rest then comma_before_quote else other_comma)
    else (if b == 32 then space
    else (if b == 9 || b == 10 then line_space
    else (if b == 48 then zero_digit
    else (if nat_le 49 b && nat_le b 57 then other_digit
    else (if b == 84 then capital_t
    else (if b == 114 then letter_r
    else (if b == 117 then letter_u
    else (if b == 101 then letter_e
    else (if b == 70 then capital_f
    else (if b == 97 then letter_a
    else (if b == 108 then letter_l
    else (if b == 115 then letter_s else other_byte)))))))))))))))))))))

abbrev pub kinds_of : List ℕ → List ℕ
kinds_of [] = []
kinds_of (b ∷ bs) = kind_of b bs ∷ kinds_of bs

-- ---- sets of kinds

abbrev pub only : ℕ → ℕ
only kind = 2 ^ kind

-- quotes before one key, of either form
abbrev pub descr_quotes : ℕ
descr_quotes = only single_descr + only double_descr

abbrev pub fortran_quotes : ℕ
fortran_quotes = only single_fortran + only double_fortran

abbrev pub shape_quotes : ℕ
shape_quotes = only single_shape + only double_shape

-- quotes of one form
abbrev pub single_quotes : ℕ
single_quotes = only single_other + only single_descr + only single_fortran + only single_shape

abbrev pub double_quotes : ℕ
double_quotes = only double_other + only double_descr + only double_fortran + only double_shape

abbrev pub quotes : ℕ
quotes = single_quotes + double_quotes

abbrev pub all_kinds : ℕ
all_kinds = 2 ^ 30 - 1

abbrev pub commas : ℕ
commas = only comma_before_quote + only other_comma

abbrev pub digits : ℕ
digits = only zero_digit + only other_digit

abbrev pub white_space : ℕ
white_space = only space + only line_space

-- ---- roles of bytes

-- of a byte that does nothing
abbrev pub mark : ℕ
mark = 0

-- of the first byte of a key
abbrev pub descr_key : ℕ
descr_key = 1

abbrev pub fortran_key : ℕ
fortran_key = 2

abbrev pub shape_key : ℕ
shape_key = 3

abbrev pub other_key : ℕ
other_key = 4

-- of the bytes of a field's name, and of a type
abbrev pub name_byte : ℕ
name_byte = 5

abbrev pub type_byte : ℕ
type_byte = 6

abbrev pub list_start : ℕ
list_start = 7

-- of the end of a pair in the list, and of a type outside a list
abbrev pub pair_end : ℕ
pair_end = 8

abbrev pub type_end : ℕ
type_end = 9

abbrev pub true_start : ℕ
true_start = 10

abbrev pub false_start : ℕ
false_start = 11

abbrev pub first_digit : ℕ
first_digit = 12

abbrev pub further_digit : ℕ
further_digit = 13

-- ---- the grammar

abbrev pub symbol : ℕ → Rule
symbol set = rules.One mark set

abbrev pub byte_of : ℕ → Rule
byte_of kind = symbol (only kind)

abbrev pub spaces : Rule
spaces = Many (only space) (byte_of space)

-- A text in quotes, single or double, without a further one of them. It begins with a quote of these kinds, and the roles are of the
-- first quote, the bytes between and the last one.
abbrev pub text_between : (quotes set : ℕ) → (first byte end : ℕ) → Rule
text_between set form first byte end =
    Then (rules.One first set) (Then (Many (all_kinds - form) (rules.One byte (all_kinds - form))) (rules.One end form))

abbrev pub text_in_quotes : (single double first byte end : ℕ) → Rule
text_in_quotes single double first byte end =
    Or single (text_between single single_quotes first byte end) (text_between double double_quotes first byte end)

abbrev pub any_text : (byte end : ℕ) → Rule
any_text byte end = text_in_quotes single_quotes double_quotes mark byte end

abbrev pub comma : Rule
comma = Then (symbol commas) spaces

abbrev pub pair : Rule
pair =
    Then (byte_of open_parenthesis)
    (Then spaces
    (Then (any_text name_byte mark)
    (Then spaces
    (Then comma
    (Then (any_text type_byte mark)
    (Then spaces (Then (rules.One pair_end (only close_parenthesis)) spaces)))))))

abbrev pub list : Rule
list =
    Then (rules.One list_start (only open_bracket))
    (Then spaces (Then (Or (only open_parenthesis) (Then pair (Many commas (Then comma pair))) Nothing) (byte_of close_bracket)))

abbrev pub descr : Rule
descr = Or (only open_bracket) list (any_text type_byte type_end)

abbrev pub fortran_order : Rule
fortran_order =
    Or (only capital_t)
    (Then (rules.One true_start (only capital_t)) (Then (byte_of letter_r) (Then (byte_of letter_u) (byte_of letter_e))))
    (Then (rules.One false_start (only capital_f))
    (Then (byte_of letter_a) (Then (byte_of letter_l) (Then (byte_of letter_s) (byte_of letter_e)))))

-- without leading zeros
abbrev pub number : Rule
number =
    Then
    (Or (only zero_digit)
    (rules.One first_digit (only zero_digit))
    (Then (rules.One first_digit (only other_digit)) (Many digits (rules.One further_digit digits))))
    spaces

-- `()`, `(n,)`, `(n, m)`, and so on
abbrev pub shape : Rule
shape =
    Then (byte_of open_parenthesis)
    (Then spaces
    (Then
    (Or digits
    (Then number (Then comma (Or digits (Then number (Many commas (Then comma number))) Nothing)))
    Nothing)
    (byte_of close_parenthesis)))

abbrev pub before_value : Rule
before_value = Then spaces (Then (byte_of colon) spaces)

-- a key that is not known may have any value
abbrev pub any_value : Rule
any_value = Or (quotes + only open_bracket) descr (Or (only capital_t + only capital_f) fortran_order shape)

-- a key behind a quote of these kinds, and its value
abbrev pub entry_of : (single double key : ℕ) → Rule → Rule
entry_of single double key value = Then (text_in_quotes (only single) (only double) key mark mark) (Then before_value value)

abbrev pub entry : Rule
entry =
    Then
    (Or descr_quotes (entry_of single_descr double_descr descr_key descr)
    (Or fortran_quotes (entry_of single_fortran double_fortran fortran_key fortran_order)
    (Or shape_quotes (entry_of single_shape double_shape shape_key shape) (entry_of single_other double_other other_key any_value))))
    spaces

-- with a comma before each further entry, and perhaps a last one
abbrev pub entries : Rule
entries =
    Then entry
    (Then (Many (only comma_before_quote) (Then (Then (byte_of comma_before_quote) spaces) entry))
    (Or (only other_comma) (Then (byte_of other_comma) spaces) Nothing))

unfoldable pub header : Rule
header =
    Then (byte_of open_brace)
    (Then spaces (Then (Or quotes entries Nothing) (Then (byte_of close_brace) (Many white_space (symbol white_space)))))

-- ---- what the bytes say in their roles, one after another

-- how a header's bytes are characters
pub data Encoding : Type 0 where
  Latin1 : Encoding
  Utf8 : Encoding

-- the bytes that a byte of a name is in UTF-8
abbrev pub in_utf8 : Encoding → ℕ → List ℕ
in_utf8 Latin1 b = if nat_lt b 128 then b ∷ [] else (192 + b / 64) ∷ (128 + b % 64) ∷ []
in_utf8 Utf8 b = b ∷ []

pub record State : Type 0 where
  -- how often each key stands there, up to 2
  pub descrs : ℕ
  pub orders : ℕ
  pub shapes : ℕ
  -- another key stands there
  pub other : Bool
  -- some type or name of `descr` is none
  pub bad : Bool
  -- `descr` is a list; else it is a single element
  pub is_list : Bool
  pub single : Option Element
  -- the fields and pad bytes of the list
  pub fields : List Field
  pub size : ℕ
  -- the texts of the pair or the type that is being read
  pub name : List ℕ
  pub type_text : List ℕ
  pub fortran : Bool
  -- the lengths before the one that was read last, if any
  pub shape : List ℕ
  pub last : Option ℕ

abbrev pub start : State
start = record {
  descrs = 0;
  orders = 0;
  shapes = 0;
  other = false;
  bad = false;
  is_list = false;
  single = None;
  fields = [];
  size = 0;
  name = [];
  type_text = [];
  fortran = false;
  shape = [];
  last = None;
}

abbrev pub once_more : ℕ → ℕ
once_more n = min (n + 1) 2

abbrev pub is_digit : ℕ → Bool
is_digit b = nat_le 48 b && nat_le b 57

-- no structure is larger than 65,536 bytes, so that a size is counted up to the next one
abbrev pub capped_size : ℕ → ℕ
capped_size n = min n 65537

-- no axis is longer than 2^32, so that a length is counted up to the last one of 64 bits
abbrev pub capped_length : ℕ → ℕ
capped_length n = min n 18446744073709551615

abbrev pub count_in : ℕ → List ℕ → Option ℕ
count_in n [] = Some n
count_in n (d ∷ ds) = if is_digit d then count_in (capped_size (10 * n + (d - 48))) ds else None

-- the number that a text is, without leading zeros
abbrev pub number_in : List ℕ → Option ℕ
number_in [] = None
number_in (d ∷ ds) = if d == 48 && nat_lt 0 (length ds) then None else count_in 0 (d ∷ ds)

-- how many pad bytes `Vn` or `|Vn` stands for
abbrev pub unordered_pad_in : List ℕ → Option ℕ
unordered_pad_in [] = None
unordered_pad_in (b ∷ bs) = if b == 86 then number_in bs else None

abbrev pub pad_in : List ℕ → Option ℕ
pad_in [] = None
pad_in (b ∷ bs) = if b == 124 then unordered_pad_in bs else unordered_pad_in (b ∷ bs)

-- the element that a text is, such as `<i4`
abbrev pub element_in : List ℕ → Option Element
element_in text = or_coded None text

abbrev pub without_texts : State → State
without_texts s = record s { name = []; type_text = [] }

abbrev pub with_bad_pair : State → State
with_bad_pair s = record (without_texts s) { bad = true }

abbrev pub with_pad : State → Option ℕ → State
with_pad s None = with_bad_pair s
with_pad s (Some n) = record (without_texts s) { size = capped_size (s.size + n) }

-- a field behind those that were read
abbrev pub with_field : State → Option Element → State
with_field s None = with_bad_pair s
with_field s (Some e) =
    if is_utf8 s.name
    then record (without_texts s) {
      fields = s.fields ++ record { name = s.name; at = s.size; element = e } ∷ [];
      size = capped_size (s.size + size_of e.kind);
    }
    else with_bad_pair s

-- an empty name is that of pad bytes
abbrev pub with_pair : State → State
with_pair s = if length s.name == 0 then with_pad s (pad_in s.type_text) else with_field s (element_in s.type_text)

abbrev pub with_type : State → Option Element → State
with_type s None = record s { bad = true; single = None; type_text = [] }
with_type s (Some e) = record s { single = Some e; type_text = [] }

abbrev pub with_length : State → ℕ → State
with_length s n = record s { last = Some (capped_length n) }

abbrev pub with_digit : State → Option ℕ → ℕ → State
with_digit s None d = with_length s d
with_digit s (Some n) d = with_length s (10 * n + d)

-- what a byte says in its role
abbrev pub step : Encoding → State → (role byte : ℕ) → State
step encoding s role b =
    if role == descr_key then record s { descrs = once_more s.descrs }
    else (if role == fortran_key then record s { orders = once_more s.orders }
    else (if role == shape_key then record s { shapes = once_more s.shapes }
    else (if role == other_key then record s { other = true }
    else (if role == name_byte then record s { name = s.name ++ in_utf8 encoding b }
    else (if role == type_byte then record s { type_text = s.type_text ++ b ∷ [] }
    else (if role == list_start then record s { is_list = true }
    else (if role == pair_end then with_pair s
    else (if role == type_end then with_type s (element_in s.type_text)
    else (if role == true_start then record s { fortran = true }
    else (if role == false_start then record s { fortran = false }
    else (if role == first_digit then record s { shape = s.shape ++ option_to_list s.last; last = Some (b - 48) }
    else (if role == further_digit then with_digit s s.last (b - 48) else s))))))))))))

abbrev pub steps : Encoding → State → (roles bytes : List ℕ) → State
steps encoding s [] bs = s
steps encoding s (r ∷ rs) [] = s
steps encoding s (r ∷ rs) (b ∷ bs) = steps encoding (step encoding s r b) rs bs

-- ---- headers

-- the type, whether the first axis runs fastest, and the lengths
pub record Header : Type 0 where
  pub element : ElementType
  pub fortran : Bool
  pub shape : List ℕ

-- each key stands there once, and no other one
abbrev pub has_keys : State → Bool
has_keys s = not s.other && s.descrs == 1 && s.orders == 1 && s.shapes == 1

abbrev pub single_type : Option Element → Option ElementType
single_type None = None
single_type (Some e) = Some (One e)

abbrev pub structure_type : List Field → ℕ → Option ElementType
structure_type fields size = if is_structure fields size then Some (Structure fields size) else None

abbrev pub type_of_parts : (bad is_list : Bool) → Option Element → List Field → ℕ → Option ElementType
type_of_parts bad is_list single fields size = if bad then None else (if is_list then structure_type fields size else single_type single)

-- the type that `descr` is
abbrev pub type_in : State → Option ElementType
type_in s = type_of_parts s.bad s.is_list s.single s.fields s.size

abbrev pub header_with : State → Option ElementType → Result Header NpyFault
header_with s None = Err BadDescr
header_with s (Some t) = Ok (record { element = t; fortran = s.fortran; shape = s.shape ++ option_to_list s.last })

-- what a whole literal says
abbrev pub header_of : State → Result Header NpyFault
header_of s = if has_keys s then header_with s (type_in s) else Err BadKeys

abbrev pub roles_of : List Part → List ℕ
roles_of ps = map (λ (p : Part). p.role) ps

-- what the bytes come to in these roles: a whole literal says something, and else the first byte behind the longest front is the fault
abbrev pub outcome : Encoding → (roles : List ℕ) → (whole : Bool) → (bytes : List ℕ) → Result Header NpyFault
outcome encoding roles true bytes = header_of (steps encoding start roles bytes)
outcome encoding roles false bytes = Err (BadHeader (length roles))

abbrev pub judge : Encoding → (bytes : List ℕ) → List Part → Bool → Result Header NpyFault
judge encoding bytes ps whole = outcome encoding (roles_of ps) whole bytes

-- THE MEANING: the bytes come to this header, or have this fault
abbrev pub ReadsAs : Encoding → List ℕ → Result Header NpyFault → Type 0
ReadsAs encoding bytes x = ComesTo header (kinds_of bytes) (judge encoding bytes) x

-- the same, computed
unfoldable pub header_in : Encoding → List ℕ → Result Header NpyFault
header_in encoding bytes = judged header (kinds_of bytes) (judge encoding bytes)

-- ---- the laws

-- ONE MEANING: no bytes come to two headers, to two faults, or to both
abbrev pub OneMeaning : Type 0
OneMeaning = (encoding : Encoding) (bytes : List ℕ) (x y : Result Header NpyFault) → ReadsAs encoding bytes x → ReadsAs encoding bytes y → x ≡ y

-- COMPUTED RIGHT: what is computed is what the bytes come to
abbrev pub HeaderIsRead : Type 0
HeaderIsRead = (encoding : Encoding) (bytes : List ℕ) → ReadsAs encoding bytes (header_in encoding bytes)
