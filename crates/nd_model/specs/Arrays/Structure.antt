-- Structures: which fields are a structure of a size. From PEP 3118 and NumPy's structured arrays: the fields stand in order,
-- do not overlap and lie inside the item; what no field covers is padding. A name is the list of its bytes in UTF-8.
use Rattle.std.specs.Prelude.{ℕ, ◌+◌, ◌==◌, nat_le, nat_lt, bytes_eq, Bool, true, false, ◌&&◌, ◌||◌, not, List, [], ◌∷◌, length}
use Rattle.nd_model.specs.Arrays.Element.{size_of}
use Rattle.nd_model.specs.Arrays.View.{Field}

-- a control character is U+0000 to U+001F, U+007F, or U+0080 to U+009F, whose second byte stands behind a byte of 194
abbrev pub is_control : ℕ → ℕ → Bool
is_control before b = nat_lt b 32 || b == 127 || (before == 194 && nat_le 128 b && nat_le b 159)

-- a colon, a quote of either kind, or a backslash
abbrev pub is_mark : ℕ → Bool
is_mark b = b == 58 || b == 34 || b == 39 || b == 92

-- no byte, the first one standing behind `before`, is a mark or ends a control character
abbrev pub are_name_bytes : ℕ → List ℕ → Bool
are_name_bytes before [] = true
are_name_bytes before (b ∷ bs) = not (is_control before b || is_mark b) && are_name_bytes b bs

abbrev pub is_field_name : List ℕ → Bool
is_field_name n = nat_lt 0 (length n) && nat_le (length n) 64 && are_name_bytes 0 n

abbrev pub are_named : List Field → Bool
are_named [] = true
are_named (f ∷ fs) = is_field_name f.name && are_named fs

abbrev pub has_name : List ℕ → List Field → Bool
has_name n [] = false
has_name n (f ∷ fs) = bytes_eq n f.name || has_name n fs

abbrev pub are_distinct : List Field → Bool
are_distinct [] = true
are_distinct (f ∷ fs) = not (has_name f.name fs) && are_distinct fs

-- each field begins at or behind the end of the one before it, the first one at or behind the place; the last one ends inside the size
abbrev pub are_apart : ℕ → List Field → ℕ → Bool
are_apart place [] size = nat_le place size
are_apart place (f ∷ fs) size = nat_le place f.at && are_apart (f.at + size_of f.element.kind) fs size

-- the fields are a structure of the size
abbrev pub is_structure : List Field → ℕ → Bool
is_structure fields size =
    nat_lt 0 (length fields) && nat_le (length fields) 256 && nat_le size 65536 && are_apart 0 fields size && are_named fields && are_distinct fields
