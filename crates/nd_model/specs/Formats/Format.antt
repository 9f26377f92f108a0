-- The names of kinds, and the format strings of element types (PEP 3118).
use Rattle.std.specs.Prelude.{ℕ, ◌+◌, ◌-◌, ◌==◌, Bool, true, false, if◌then◌else◌, List, [], ◌∷◌, ◌++◌, codes, decimal}
use Rattle.nd_model.specs.Arrays.Element.{Kind, Boolean, Int8, Int16, Int32, Int64, UInt8, UInt16, UInt32, UInt64, Element, size_of}
use Rattle.nd_model.specs.Arrays.View.{Field, ElementType, One, Structure}

abbrev pub kind_text : Kind → List ℕ
kind_text Boolean = codes "bool"
kind_text Int8 = codes "int8"
kind_text Int16 = codes "int16"
kind_text Int32 = codes "int32"
kind_text Int64 = codes "int64"
kind_text UInt8 = codes "uint8"
kind_text UInt16 = codes "uint16"
kind_text UInt32 = codes "uint32"
kind_text UInt64 = codes "uint64"

-- the code of a kind in a format string (PEP 3118)
abbrev pub kind_code : Kind → List ℕ
kind_code Boolean = codes "?"
kind_code Int8 = codes "b"
kind_code Int16 = codes "h"
kind_code Int32 = codes "i"
kind_code Int64 = codes "q"
kind_code UInt8 = codes "B"
kind_code UInt16 = codes "H"
kind_code UInt32 = codes "I"
kind_code UInt64 = codes "Q"

abbrev pub order_text : Bool → List ℕ
order_text true = codes ">"
order_text false = codes "<"

-- a code of one byte stands alone, each larger one behind its order
abbrev pub element_format : Element → List ℕ
element_format e = if size_of e.kind == 1 then kind_code e.kind else order_text e.big ++ kind_code e.kind

-- so many bytes without meaning
abbrev pub pad_format : ℕ → List ℕ
pad_format n = if n == 0 then [] else if n == 1 then codes "x" else decimal n ++ codes "x"

abbrev pub field_format : Field → List ℕ
field_format f = element_format f.element ++ codes ":" ++ f.name ++ codes ":"

-- the fields from a place of the structure on, and the bytes behind the last one
abbrev pub fields_format : (place size : ℕ) → List Field → List ℕ
fields_format place size [] = pad_format (size - place)
fields_format place size (f ∷ fs) =
    pad_format (f.at - place) ++ field_format f ++ fields_format (f.at + size_of f.element.kind) size fs

-- the format string of an element type (PEP 3118)
abbrev pub format_text : ElementType → List ℕ
format_text (One e) = element_format e
format_text (Structure fields size) = codes "T{" ++ fields_format 0 size fields ++ codes "}"
