-- Names of inputs.
use Rattle.std.specs.Prelude.{ℕ, Bool, true, ◌&&◌, ◌||◌, nat_eq, nat_le, List, [], ◌∷◌, length}

-- the most bytes of an input's name
abbrev pub most_name : ℕ
most_name = 64

abbrev pub is_between : (low high n : ℕ) → Bool
is_between low high n = nat_le low n && nat_le n high

-- a digit, a letter, or one of `-`, `.` and `_`
abbrev pub is_name_byte : ℕ → Bool
is_name_byte c =
    is_between 48 57 c || is_between 65 90 c || is_between 97 122 c || nat_eq c 45 || nat_eq c 46 || nat_eq c 95

abbrev pub are_name_bytes : List ℕ → Bool
are_name_bytes [] = true
are_name_bytes (c ∷ cs) = is_name_byte c && are_name_bytes cs

-- an input may have this name
abbrev pub is_input_name : List ℕ → Bool
is_input_name name = is_between 1 most_name (length name) && are_name_bytes name
