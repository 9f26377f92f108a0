-- Assignments to all elements of a view (NumPy user guide, "Broadcasting" and "Assigning values to indexed arrays"): each element gets
-- the content that stands at its own tuple of the value, converted. All contents are read first; where elements share bytes, the last
-- write in C order stays. Leading axes of length 1, more than the target has axes, are dropped from the value's shape first.
use Rattle.std.specs.Prelude.{ℕ, zero, suc, ◌-◌, ◌==◌, if◌then◌else◌, Bool, List, [], ◌∷◌, map, length}
use Rattle.nd_model.specs.Arrays.Tuple.{indices, number}
use Rattle.nd_model.specs.Arrays.View.{Geo}
use Rattle.nd_model.specs.Arrays.Content.{Content, all_writes, content_or}
use Rattle.nd_model.specs.Making.Conversion.{converted_content}
use Rattle.nd_model.specs.Arrays.Broadcast.{broadcasts_to, own_tuple}

-- at most so many leading axes of length 1 are dropped
abbrev pub without_ones : (more : ℕ) → List ℕ → List ℕ
without_ones zero s = s
without_ones (suc more) [] = []
without_ones (suc more) (n ∷ s) = if n == 1 then without_ones more s else n ∷ s

-- the shape of a value as it stands beside that of a target
abbrev pub value_shape : (value target : List ℕ) → List ℕ
value_shape value target = without_ones (length value - length target) value

-- whether a value of the first shape may be assigned to a target of the second one
abbrev pub fits_into : (value target : List ℕ) → Bool
fits_into value target = broadcasts_to (value_shape value target) target

-- one content for each index tuple
abbrev pub view_writes : Geo → (List ℕ → Content) → List (ℕ × ℕ)
view_writes g f = all_writes g.element g.places (map f (indices g.shape))

-- WHAT AN ASSIGNMENT WRITES: the value has this shape, and these contents in C order
abbrev pub assigned_writes : Geo → (shape : List ℕ) → List Content → List (ℕ × ℕ)
assigned_writes g shape cs =
    view_writes g (λ t. converted_content g.element (content_or cs (number shape (own_tuple shape t))))
