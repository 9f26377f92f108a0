-- The bytes of written formats, each with its role.
use Rattle.std.proofs.Common.{◌≡◌, ℕ, ◌+◌, ◌-◌, ◌==◌, ◌^◌, ◌<◌, Bool, true, false, List, [], ◌∷◌, ◌++◌, map, decimal, refl, sym, ap, ap₂, ◌∙◌, arith, if◌then◌else◌, codes}
use Rattle.std.proofs.lemmas.Bool.{eqb-false}
use Rattle.std.proofs.lemmas.List.{map-append}
use Rattle.std.specs.Int.Digits.{digits_of}
use Rattle.std.proofs.lemmas.Fmt.{decimal-digits_of}
use Rattle.nd_model.specs.Arrays.Element.{Kind, Boolean, Int8, Int16, Int32, Int64, UInt8, UInt16, UInt32, UInt64, Element, size_of}
use Rattle.nd_model.specs.Arrays.View.{Field, ElementType, One, Structure}
use Rattle.nd_model.specs.Formats.Format.{kind_code, order_text, element_format, pad_format}
use Rattle.nd_model.specs.Formats.FormatGrammar.{ORDER_ROLE, SINGLE_ROLE, CODE_ROLE, COLON_ROLE, NAME_ROLE, NAME_END_ROLE, DIGIT_ROLE, PAD_ROLE, TEE_ROLE, OPEN_ROLE, CLOSE_ROLE}

-- a role and a byte
abbrev pub Mark : Type 0
Mark = ℕ × ℕ

abbrev pub role_of : Mark → ℕ
role_of m = m.0

abbrev pub byte_of : Mark → ℕ
byte_of m = m.1

abbrev pub code_byte : Kind → ℕ
code_byte Boolean = 63
code_byte Int8 = 98
code_byte Int16 = 104
code_byte Int32 = 105
code_byte Int64 = 113
code_byte UInt8 = 66
code_byte UInt16 = 72
code_byte UInt32 = 73
code_byte UInt64 = 81

abbrev pub order_byte : Bool → ℕ
order_byte true = 62
order_byte false = 60

abbrev pub order_marks : Element → List Mark
order_marks e = if size_of e.kind == 1 then [] else (ORDER_ROLE, order_byte e.big) ∷ []

abbrev pub digit_mark : ℕ → Mark
digit_mark d = (DIGIT_ROLE, 48 + d)

abbrev pub name_mark : ℕ → Mark
name_mark b = (NAME_ROLE, b)

abbrev pub count_marks : ℕ → List Mark
count_marks n = map digit_mark (digits_of 10 n)

abbrev pub cross_marks : List Mark
cross_marks = (PAD_ROLE, 120) ∷ []

abbrev pub pad_marks : ℕ → List Mark
pad_marks n = if n == 0 then [] else if n == 1 then cross_marks else count_marks n ++ cross_marks

-- a field behind its order
abbrev pub body_marks : Field → List Mark
body_marks f = (CODE_ROLE, code_byte f.element.kind) ∷ (COLON_ROLE, 58) ∷ map name_mark f.name ++ (NAME_END_ROLE, 58) ∷ []

abbrev pub fields_marks : (place size : ℕ) → List Field → List Mark
fields_marks place size [] = pad_marks (size - place)
fields_marks place size (f ∷ fs) =
    pad_marks (f.at - place) ++ (order_marks f.element ++ (body_marks f ++ fields_marks (f.at + size_of f.element.kind) size fs))

abbrev pub type_marks : ElementType → List Mark
type_marks (One e) = order_marks e ++ (SINGLE_ROLE, code_byte e.kind) ∷ []
type_marks (Structure fields size) = (TEE_ROLE, 84) ∷ (OPEN_ROLE, 123) ∷ (fields_marks 0 size fields ++ (CLOSE_ROLE, 125) ∷ [])

-- ---- their bytes are the format

code_text : (k : Kind) → code_byte k ∷ [] ≡ kind_code k
code_text Boolean = refl
code_text Int8 = refl
code_text Int16 = refl
code_text Int32 = refl
code_text Int64 = refl
code_text UInt8 = refl
code_text UInt16 = refl
code_text UInt32 = refl
code_text UInt64 = refl

order_is : (big : Bool) → order_byte big ∷ [] ≡ order_text big
order_is true = refl
order_is false = refl

pub element_text : (r : ℕ) (e : Element) → map byte_of (order_marks e ++ (r, code_byte e.kind) ∷ []) ≡ element_format e
element_text r e = by (size_of e.kind == 1)
  where
    by : (b : Bool) → map byte_of ((if b then [] else (ORDER_ROLE, order_byte e.big) ∷ []) ++ (r, code_byte e.kind) ∷ []) ≡ (if b then kind_code e.kind else order_text e.big ++ kind_code e.kind)
    by true = code_text e.kind
    by false = ap₂ (λ xs ys. xs ++ ys) (order_is e.big) (code_text e.kind)

digits_text : (ds : List ℕ) → map byte_of (map digit_mark ds) ≡ map (λ d. 48 + d) ds
digits_text [] = refl
digits_text (d ∷ ds) = ap (λ l. (48 + d) ∷ l) (digits_text ds)

pub name_text : (bs : List ℕ) → map byte_of (map name_mark bs) ≡ bs
name_text [] = refl
name_text (b ∷ bs) = ap (λ l. b ∷ l) (name_text bs)

pub pad_text : (n : ℕ) → n < 2 ^ 64 → map byte_of (pad_marks n) ≡ pad_format n
pad_text n small = by (n == 0) refl (n == 1)
  where
    count_text : 0 < n → map byte_of (count_marks n ++ cross_marks) ≡ decimal n ++ codes "x"
    count_text some =
        map-append byte_of (count_marks n) cross_marks ∙ ap (λ l. l ++ codes "x") (digits_text (digits_of 10 n) ∙ sym (decimal-digits_of n some small))

    by : (b : Bool) → (n == 0) ≡ b → (c : Bool) → map byte_of (if b then [] else if c then cross_marks else count_marks n ++ cross_marks) ≡ (if b then [] else if c then codes "x" else decimal n ++ codes "x")
    by true e c = refl
    by false e true = refl
    by false e false = count_text (omega (arith, eqb-false n 0 e))
