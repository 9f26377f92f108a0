-- Items of a list or a tuple of Python, as they are written one after another.
use Rattle.std.specs.Prelude.{ℕ, Bool, true, false, List, [], ◌++◌, codes}
use Rattle.std.specs.List.{flat_map}
use Rattle.nd_model.specs.Text.Text.{joined}

-- what stands before an item
abbrev pub comma : (is_first : Bool) → List ℕ
comma true = []
comma false = codes ", "

-- the items that are left
abbrev pub items_left : (is_first : Bool) → List (List ℕ) → List ℕ
items_left true ps = joined (codes ", ") ps
items_left false ps = flat_map (λ p. codes ", " ++ p) ps
