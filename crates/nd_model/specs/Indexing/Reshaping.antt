-- Other shapes of the same elements in C order, as NumPy's `reshape` gives them.
use Rattle.std.specs.Prelude.{◌≡◌, ◌↔◌, ℕ, ◌+◌, ◌/◌, ◌==◌, ℤ, pos, negsuc, neg_ℤ, ◌+ℤ◌, int_le, nat_lt, unsigned_abs, Bool, true, not, ◌&&◌, ◌||◌, if◌then◌else◌, List, [], ◌∷◌, length, map, slice_index, Result, Ok, Err}
use Rattle.std.specs.List.{list_all, All}
use Rattle.std.specs.Ordering.{int_eq}
use Rattle.nd_model.specs.Arrays.Tuple.{elements_of, indices, number}
use Rattle.nd_model.specs.Arrays.View.{Geo}
use Rattle.nd_model.specs.Arrays.Strides.{way_to, begins_at}
use Rattle.nd_model.specs.Indexing.ShapeFault.{TwoUnknown, SizeMismatch}
use Rattle.nd_model.specs.Cells.Fault.{Fault, Shape}
use Rattle.nd_model.specs.Cells.Refusing.{when}

-- -1 stands for the length that is left
abbrev pub is_unknown : ℤ → Bool
is_unknown z = int_eq z (negsuc 0)

abbrev pub unknowns : List ℤ → ℕ
unknowns [] = 0
unknowns (z ∷ zs) = (if is_unknown z then 1 else 0) + unknowns zs

abbrev pub length_or : ℕ → ℤ → ℕ
length_or left z = if is_unknown z then left else unsigned_abs z

-- the lengths, with this one in place of -1
abbrev pub lengths_with : ℕ → List ℤ → List ℕ
lengths_with left zs = map (length_or left) zs

-- the product of the lengths that are known
abbrev pub known_elements : List ℤ → ℕ
known_elements zs = elements_of (lengths_with 1 zs)

abbrev pub is_length : ℤ → Bool
is_length z = is_unknown z || int_le (pos 0) z

-- a length is left where the others have elements
abbrev pub is_left : List ℤ → Bool
is_left zs = (unknowns zs == 0) || not (known_elements zs == 0)

-- the shape of so many elements that the lengths give, or the first refusal
abbrev pub shape_for : ℕ → List ℤ → Result (List ℕ) Fault
shape_for count zs =
    let shape = lengths_with (count / known_elements zs) zs in
    when (nat_lt (unknowns zs) 2) (Shape TwoUnknown)
    (when (list_all is_length zs && (is_left zs && (elements_of shape == count))) (Shape SizeMismatch) (Ok shape))

-- how far an element is from the first one
abbrev pub distance : List ℕ → ℕ → ℤ
distance places k = pos (slice_index places k) +ℤ neg_ℤ (pos (slice_index places 0))

-- the only numbers of which the places could be made, one for each axis: from the first element to the second on that axis
abbrev pub steps_in : List ℕ → List ℕ → List ℤ
steps_in places [] = []
steps_in places (n ∷ shape) = (if nat_lt n 2 then pos 0 else distance places (elements_of shape)) ∷ steps_in places shape

-- the place of each tuple is the first place plus the sum of position times number
abbrev pub is_even : List ℕ → List ℕ → Bool
is_even shape places =
    list_all (λ t. int_eq (pos (slice_index places (number shape t))) (begins_at (slice_index places 0) (steps_in places shape) t)) (indices shape)

-- a view where it can be one, and else the shape of a copy
pub data Reshaped : Type 0 where
  View : Geo → Reshaped
  Copy : List ℕ → Reshaped

abbrev pub reshaped : Geo → List ℕ → Reshaped
reshaped g shape = if is_even shape g.places then View (record g { shape = shape }) else Copy shape

abbrev pub reshaped_or : Geo → Result (List ℕ) Fault → Result Reshaped Fault
reshaped_or g (Ok shape) = Ok (reshaped g shape)
reshaped_or g (Err f) = Err f

-- THE SAME ELEMENTS IN ANOTHER SHAPE, or the first refusal
abbrev pub reshape : List ℤ → Geo → Result Reshaped Fault
reshape zs g = reshaped_or g (shape_for (elements_of g.shape) zs)

-- a start and one number for each axis lead to the places of all tuples
abbrev pub LeadsTo : (shape places : List ℕ) → (start : ℤ) → (steps : List ℤ) → Type 0
LeadsTo shape places start steps = (length steps ≡ length shape) × All (λ t. pos (slice_index places (number shape t)) ≡ start +ℤ way_to t steps) (indices shape)

-- THE LAW OF EVEN PLACES: the test finds them exactly where there are such numbers
abbrev pub EvenPlaces : Type 0
EvenPlaces = (shape places : List ℕ) → (is_even shape places ≡ true) ↔ ((start : ℤ) × (steps : List ℤ) × LeadsTo shape places start steps)
