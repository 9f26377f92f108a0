-- How many bytes the text of an array has, by the widths of its columns.
use Rattle.std.specs.Prelude.{ℕ, zero, suc, ◌+◌, ◌*◌, sum_by, Bool, true, false, List, [], ◌∷◌, length}
use Rattle.nd_print.specs.declared.columns.Column.{Column}

-- the numbers of an element, with a comma and a blank between two of them
abbrev pub columns_len : List Column → ℕ
columns_len [] = 0
columns_len (c ∷ cs) = c.width + sum_by (λ (d : Column). d.width + 2) cs

-- an element: a structure has parentheses, and of one field a comma
abbrev pub element_len : Bool → List Column → ℕ
element_len true (c ∷ []) = c.width + 3
element_len true cs = columns_len cs + 2
element_len false cs = columns_len cs

-- what stands between two parts of an axis, with these axes below
abbrev pub gap_len : ℕ → List ℕ → ℕ
gap_len depth [] = 1
gap_len depth (n ∷ below) = length (n ∷ below) + (depth + 1)

-- an array, of which each element has this length
abbrev pub nested_len : ℕ → ℕ → List ℕ → ℕ
nested_len depth each [] = each
nested_len depth each (zero ∷ below) = 2
nested_len depth each (suc n ∷ below) =
    let part = nested_len (depth + 1) each below in n * (part + gap_len depth below) + part + 2
