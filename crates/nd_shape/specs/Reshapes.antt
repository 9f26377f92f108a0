-- The strides of another shape of the same elements, and whether they lead to each of them.
use Rattle.std.specs.Prelude.{◌≡◌, ℕ, ◌<◌, ◌≤◌, ◌/◌, ◌%◌, ◌==◌, ◌&&◌, ◌||◌, not, nat_le, Bool, true, if◌then◌else◌, ℤ, pos, ◌+ℤ◌, ◌*ℤ◌, List, [], ◌∷◌}
use Rattle.std.specs.Ordering.{int_eq}
use Rattle.nd_model.specs.Arrays.Tuple.{elements_of}

-- how far the element of a number is from the first one, by lengths and strides
abbrev pub way_of : List ℕ → List ℤ → ℕ → ℤ
way_of [] strides f = pos 0
way_of (n ∷ shape) [] f = pos 0
way_of (n ∷ shape) (s ∷ strides) f = (pos (f / elements_of shape % n) *ℤ s) +ℤ way_of shape strides f

-- on each axis, how far its second element is
abbrev pub steps_for : (ℕ → ℤ) → List ℕ → List ℤ
steps_for way [] = []
steps_for way (n ∷ shape) = way (elements_of shape) ∷ steps_for way shape

-- an axis of this length and stride has that step, if it is walked
abbrev pub is_met : ℕ → ℤ → ℤ → Bool
is_met n s way = nat_le n 1 || int_eq way s

-- each axis has its step, if it is walked
abbrev pub are_met : (ℕ → ℤ) → List ℕ → List ℤ → Bool
are_met way [] strides = true
are_met way (n ∷ shape) [] = true
are_met way (n ∷ shape) (s ∷ strides) = is_met n s (way (elements_of shape)) && are_met way shape strides

-- whether the strides of a shape make another shape of its elements a view
abbrev pub leads_to : List ℕ → List ℤ → List ℕ → Bool
leads_to shape strides to = are_met (way_of to (steps_for (way_of shape strides) to)) shape strides

-- ---- the length that is left

-- a length is left that makes `count` elements, or none is left open and the known ones make as many
abbrev pub fills : ℕ → ℕ → ℕ → Bool
fills count unknowns known = if unknowns == 0 then known == count else (not (known == 0) && (count % known == 0))

-- the length that is left where one is open
abbrev pub IsLeft : ℕ → ℕ → ℕ → ℕ → Type 0
IsLeft count unknowns known left = (left ≤ count) × (0 < unknowns → left ≡ count / known)
