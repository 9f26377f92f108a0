-- NPY files as they are written, from NumPy's description of the format: magic bytes, version, the length of the header, the
-- header, and the elements in C order. The header is a literal of Python, spaces and a newline.
use Rattle.std.specs.Prelude.{ℕ, ◌+◌, ◌-◌, ◌%◌, ◌==◌, nat_le, pos, Bool, true, false, ◌||◌, if◌then◌else◌, List, [], ◌∷◌, ◌++◌, length, map, replicate, codes, decimal}
use Rattle.nd_model.specs.Arrays.Element.{Kind, Boolean, Int8, Int16, Int32, Int64, UInt8, UInt16, UInt32, UInt64, Element, size_of, bytes_of}
use Rattle.nd_model.specs.Arrays.View.{Field, ElementType, One, Structure}
use Rattle.nd_model.specs.Arrays.Content.{Content, array_bytes, content_in_order}
use Rattle.nd_model.specs.Formats.Format.{order_text}
use Rattle.nd_model.specs.Text.Text.{joined}

-- ---- element types

abbrev pub kind_letter : Kind → List ℕ
kind_letter Boolean = codes "b"
kind_letter Int8 = codes "i"
kind_letter Int16 = codes "i"
kind_letter Int32 = codes "i"
kind_letter Int64 = codes "i"
kind_letter UInt8 = codes "u"
kind_letter UInt16 = codes "u"
kind_letter UInt32 = codes "u"
kind_letter UInt64 = codes "u"

-- One byte has no order.
abbrev pub order_mark : Element → List ℕ
order_mark e = if size_of e.kind == 1 then codes "|" else order_text e.big

-- the element text of NumPy's array interface, such as `<i4`
abbrev pub element_text : Element → List ℕ
element_text e = order_mark e ++ kind_letter e.kind ++ decimal (size_of e.kind)

abbrev pub quote : List ℕ → List ℕ
quote text = codes "'" ++ text ++ codes "'"

abbrev pub pair_text : (name text : List ℕ) → List ℕ
pair_text name text = codes "(" ++ quote name ++ codes ", " ++ quote text ++ codes ")"

abbrev pub field_pair : Field → List ℕ
field_pair f = pair_text f.name (element_text f.element)

-- pad bytes, if there are any, are a pair without a name
abbrev pub pad_pairs : ℕ → List (List ℕ)
pad_pairs n = if n == 0 then [] else pair_text [] (codes "|V" ++ decimal n) ∷ []

-- the fields from a place of the structure on, and the bytes behind the last one
abbrev pub field_pairs : (place size : ℕ) → List Field → List (List ℕ)
field_pairs place size [] = pad_pairs (size - place)
field_pairs place size (f ∷ fs) =
    pad_pairs (f.at - place) ++ field_pair f ∷ field_pairs (f.at + size_of f.element.kind) size fs

abbrev pub descr_text : ElementType → List ℕ
descr_text (One e) = quote (element_text e)
descr_text (Structure fields size) = codes "[" ++ joined (codes ", ") (field_pairs 0 size fields) ++ codes "]"

-- ---- the literal

-- A tuple of one number has a comma behind it.
abbrev pub tuple_text : List ℕ → List ℕ
tuple_text shape = codes "(" ++ joined (codes ", ") (map decimal shape) ++ (if length shape == 1 then codes "," else []) ++ codes ")"

-- the literal in UTF-8
abbrev pub literal : ElementType → (shape : List ℕ) → List ℕ
literal t shape =
    codes "{'descr': " ++ descr_text t ++ codes ", 'fortran_order': False, 'shape': " ++ tuple_text shape ++ codes ", }"

-- Characters past U+00FF, and they alone, begin with a byte of 196 or more.
abbrev pub is_past_latin : List ℕ → Bool
is_past_latin [] = false
is_past_latin (b ∷ bs) = nat_le 196 b || is_past_latin bs

-- Of a character from U+0080 to U+00FF the first byte is 194 or 195, and adds 0 or 64 to the second one.
abbrev pub is_latin_lead : ℕ → Bool
is_latin_lead b = b == 194 || b == 195

abbrev pub latin_byte : (before b : ℕ) → ℕ
latin_byte before b = if before == 195 then (b + 64) % 256 else b

-- the bytes in Latin-1 of a text without characters past U+00FF, of which the first byte stands behind another
abbrev pub latin_bytes : (before : ℕ) → List ℕ → List ℕ
latin_bytes before [] = []
latin_bytes before (b ∷ bs) = (if is_latin_lead b then [] else latin_byte before b ∷ []) ++ latin_bytes b bs

-- ---- the file

abbrev pub magic : List ℕ
magic = 147 ∷ codes "NUMPY"

-- version 1.0 where the header fits Latin-1, else 3.0; the length of the header is a number of 2 bytes, or of 4
abbrev pub version : (is_wide : Bool) → List ℕ
version false = 1 ∷ 0 ∷ []
version true = 3 ∷ 0 ∷ []

abbrev pub length_element : (is_wide : Bool) → Element
length_element false = record { kind = UInt16; big = false }
length_element true = record { kind = UInt32; big = false }

-- the literal in the encoding of the version
abbrev pub encode : (is_wide : Bool) → List ℕ → List ℕ
encode false text = latin_bytes 0 text
encode true text = text

-- how many bytes stand before the header
abbrev pub front_size : (is_wide : Bool) → ℕ
front_size is_wide = length magic + 2 + size_of (length_element is_wide).kind

-- the least number of spaces with which the elements begin at a multiple of 64, behind so many bytes and a newline
abbrev pub spaces : ℕ → ℕ
spaces n = (64 - (n + 1) % 64) % 64

abbrev pub header_of : (is_wide : Bool) → (text : List ℕ) → List ℕ
header_of is_wide text = text ++ replicate (spaces (front_size is_wide + length text)) 32 ++ codes "\n"

abbrev pub front_of : (is_wide : Bool) → (header : List ℕ) → List ℕ
front_of is_wide header = magic ++ version is_wide ++ bytes_of (length_element is_wide) (pos (length header)) ++ header

-- all that stands before the elements
unfoldable pub npy_front : ElementType → (shape : List ℕ) → List ℕ
npy_front t shape =
    let text = literal t shape in
    let is_wide = is_past_latin text in
    front_of is_wide (header_of is_wide (encode is_wide text))

-- THE FILE of an array whose elements have these contents in C order: a Boolean is 0 or 1, and pad bytes are 0
abbrev pub npy_bytes : ElementType → (shape : List ℕ) → (contents : List Content) → List ℕ
npy_bytes t shape contents = npy_front t shape ++ array_bytes t shape (content_in_order shape contents)
