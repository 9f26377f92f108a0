-- The texts of elements, byte by byte.
use Rattle.std.proofs.Common.{◌≡◌, ℕ, List, ◌++◌, codes, decimal, refl, ap, arith}
use Rattle.std.proofs.lemmas.Fmt.{decimal-digits_of}
use Rattle.std.specs.Fmt.{digits}
use Rattle.nd_model.specs.Arrays.Element.{Kind, Boolean, Int8, Int16, Int32, Int64, UInt8, UInt16, UInt32, UInt64, Element, size_of}
use Rattle.nd_model.specs.Formats.NpyWriting.{element_text, order_mark, kind_letter}

abbrev digit_of : Kind → List ℕ
digit_of Boolean = codes "1"
digit_of Int8 = codes "1"
digit_of UInt8 = codes "1"
digit_of Int16 = codes "2"
digit_of Int32 = codes "4"
digit_of Int64 = codes "8"
digit_of UInt16 = codes "2"
digit_of UInt32 = codes "4"
digit_of UInt64 = codes "8"

-- the text of an element
abbrev pub letters : Element → List ℕ
letters e = order_mark e ++ kind_letter e.kind ++ digit_of e.kind

size_text : (k : Kind) → decimal (size_of k) ≡ digit_of k
size_text Boolean = decimal-digits_of 1 (omega arith) (omega arith)
size_text Int8 = decimal-digits_of 1 (omega arith) (omega arith)
size_text UInt8 = decimal-digits_of 1 (omega arith) (omega arith)
size_text Int16 = decimal-digits_of 2 (omega arith) (omega arith)
size_text Int32 = decimal-digits_of 4 (omega arith) (omega arith)
size_text Int64 = decimal-digits_of 8 (omega arith) (omega arith)
size_text UInt16 = decimal-digits_of 2 (omega arith) (omega arith)
size_text UInt32 = decimal-digits_of 4 (omega arith) (omega arith)
size_text UInt64 = decimal-digits_of 8 (omega arith) (omega arith)

pub letters_are : (e : Element) → element_text e ≡ letters e
letters_are e = ap (λ l. order_mark e ++ kind_letter e.kind ++ l) (size_text e.kind)

pub decimal_zero : decimal 0 ≡ codes "0"
unfolding digits
decimal_zero = refl
