-- Basic indexes: the view that items choose, by NumPy's user guide ("Indexing on ndarrays", basic indexing), and the view of a field.
use Rattle.std.specs.Prelude.{ℕ, ◌+◌, ◌-◌, ◌==◌, ℤ, pos, neg_ℤ, ◌+ℤ◌, int_le, int_lt, Bool, false, not, ◌&&◌, nat_lt, nat_le, unsigned_abs, bytes_eq, if◌then◌else◌, List, [], ◌∷◌, ◌++◌, map, length, drop, replicate, slice_index, Option, Some, None, Result, Ok, Err}
use Rattle.std.specs.Option.{option_map}
use Rattle.std.specs.List.{list_any}
use Rattle.nd_model.specs.Arrays.Element.{size_of}
use Rattle.nd_model.specs.Arrays.Tuple.{first_index}
use Rattle.nd_model.specs.Arrays.View.{Field, ElementType, One, Structure, Geo, rearranged_view}
use Rattle.nd_model.specs.Cells.Fault.{Fault, IndexFault, Index, OutOfBounds, TooManyIndices, TwoEllipses, ZeroStep}
use Rattle.nd_model.specs.Cells.Refusing.{when}
use Rattle.nd_model.specs.Arrays.Broadcast.{in_limits}
use Rattle.nd_model.specs.Indexing.Slicing.{step_or, slice_positions}

-- an item: a whole number, a slice by its bounds and step, `...`, a new axis
pub data Item : Type 0 where
  At : ℤ → Item
  Slice : (start stop step : Option ℤ) → Item
  Ellipsis : Item
  NewAxis : Item

-- how many axes an item stands for
abbrev pub axes_of : Item → ℕ
axes_of (At z) = 1
axes_of (Slice start stop step) = 1
axes_of Ellipsis = 0
axes_of NewAxis = 0

abbrev pub axes_in : List Item → ℕ
axes_in [] = 0
axes_in (i ∷ is) = axes_of i + axes_in is

abbrev pub ellipses_of : Item → ℕ
ellipses_of Ellipsis = 1
ellipses_of i = 0

abbrev pub ellipses_in : List Item → ℕ
ellipses_in [] = 0
ellipses_in (i ∷ is) = ellipses_of i + ellipses_in is

abbrev pub has_zero_step : Item → Bool
has_zero_step (Slice start stop step) = unsigned_abs (step_or step) == 0
has_zero_step i = false

abbrev pub whole_slice : Item
whole_slice = Slice None None None

-- `...` stands for the whole slices that are missing; without it they stand last
abbrev pub filled_items : (missing : ℕ) → List Item → List Item
filled_items missing [] = replicate missing whole_slice
filled_items missing (Ellipsis ∷ is) = replicate missing whole_slice ++ is
filled_items missing (i ∷ is) = i ∷ filled_items missing is

-- the index as it stands for all axes of a shape
abbrev pub items_for : List ℕ → List Item → List Item
items_for shape is = filled_items (length shape - axes_in is) is

-- ---- picks: what is chosen of each axis

-- positions of an axis, which is kept; one position of an axis, which is not; or an axis of length 1 that the array has not
pub data Pick : Type 0 where
  KeptAxis : List ℕ → Pick
  OnePosition : ℕ → Pick
  AddedAxis : Pick

-- a negative number counts from the end
abbrev pub counted_from : ℕ → ℤ → ℕ
counted_from n z = if int_lt z (pos 0) then unsigned_abs (z +ℤ pos n) else unsigned_abs z

abbrev pub is_within : ℕ → ℤ → Bool
is_within n z = int_le (neg_ℤ (pos n)) z && int_lt z (pos n)

-- what an item picks of an axis of length n, before what the others pick
abbrev pub pick_of : ℕ → Item → List Pick → List Pick
pick_of n (At z) qs = OnePosition (counted_from n z) ∷ qs
pick_of n (Slice start stop step) qs = KeptAxis (slice_positions n start stop (step_or step)) ∷ qs
pick_of n Ellipsis qs = qs
pick_of n NewAxis qs = AddedAxis ∷ qs

-- what the items of an index that stands for all axes pick of axes with these lengths
abbrev pub picks_of : List Item → List ℕ → List Pick
picks_of [] sizes = []
picks_of (i ∷ is) sizes = pick_of (slice_index sizes 0) i (picks_of is (drop (axes_of i) sizes))

-- the item's fault where it is a whole number outside its axis, else the next one
abbrev pub outside_of : (axis size : ℕ) → Item → Option IndexFault → Option IndexFault
outside_of axis size (At z) next = if is_within size z then next else Some (OutOfBounds axis z size)
outside_of axis size i next = next

-- the first whole number that is outside its axis
abbrev pub first_outside : List Item → (axis : ℕ) → List ℕ → Option IndexFault
first_outside [] axis sizes = None
first_outside (i ∷ is) axis sizes = outside_of axis (slice_index sizes 0) i (first_outside is (axis + axes_of i) (drop (axes_of i) sizes))

abbrev pub unless_outside : {A : Type 0} → Option IndexFault → Result A Fault → Result A Fault
unless_outside None then_this = then_this
unless_outside (Some f) then_this = Err (Index f)

-- ---- the view

-- the lengths of its axes
abbrev pub picked_shape : List Pick → List ℕ
picked_shape [] = []
picked_shape (KeptAxis ns ∷ qs) = length ns ∷ picked_shape qs
picked_shape (OnePosition k ∷ qs) = picked_shape qs
picked_shape (AddedAxis ∷ qs) = 1 ∷ picked_shape qs

-- the array's tuple for a tuple of the view
abbrev pub source : List Pick → List ℕ → List ℕ
source [] t = []
source (KeptAxis ns ∷ qs) t = slice_index ns (first_index t) ∷ source qs (drop 1 t)
source (OnePosition k ∷ qs) t = k ∷ source qs t
source (AddedAxis ∷ qs) t = source qs (drop 1 t)

abbrev pub picked_view : Geo → List Pick → Geo
picked_view g qs = rearranged_view g (picked_shape qs) (source qs)

-- THE VIEW THAT ITEMS CHOOSE, or the first refusal. It is a view also where all items are whole numbers
abbrev pub select : List Item → Geo → Result Geo Fault
select is g =
    let all = items_for g.shape is in
    let qs = picks_of all g.shape in
    when (nat_lt (ellipses_in is) 2) (Index TwoEllipses)
    (when (nat_le (axes_in is) (length g.shape)) (Index TooManyIndices)
    (when (not (list_any has_zero_step is)) (Index ZeroStep)
    (unless_outside (first_outside all 0 g.shape) (in_limits g.element (picked_shape qs) (Ok (picked_view g qs))))))

-- ---- fields

-- the field with this name
abbrev pub field_in : List ℕ → List Field → Option Field
field_in name [] = None
field_in name (f ∷ fs) = if bytes_eq name f.name then Some f else field_in name fs

-- a field that would end behind its structure is none: no array has such a type
abbrev pub if_inside : (size : ℕ) → Option Field → Option Field
if_inside size None = None
if_inside size (Some f) = if nat_le (f.at + size_of f.element.kind) size then Some f else None

abbrev pub field_of : List ℕ → ElementType → Option Field
field_of name (One e) = None
field_of name (Structure fields size) = if_inside size (field_in name fields)

-- the field of each element, where it lies
abbrev pub view_of_field : Geo → Field → Geo
view_of_field g f = record { element = One f.element; shape = g.shape; writable = g.writable; places = map (λ p. p + f.at) g.places }

-- the view of a field, if the elements have one with this name
abbrev pub field_view : List ℕ → Geo → Option Geo
field_view name g = option_map (view_of_field g) (field_of name g.element)
