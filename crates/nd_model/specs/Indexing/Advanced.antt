-- Advanced indexes: the elements that arrays of whole numbers and masks choose, beside the items of a basic index (NumPy user guide,
-- "Advanced indexing"). The slices are taken first. Of the axes of the view that they leave, an array gives positions, and a mask the
-- tuples where it is true; a whole number beside them counts as an array without axes.
use Rattle.std.specs.Prelude.{ℕ, ◌+◌, ◌-◌, ◌/◌, ◌%◌, ◌==◌, ℤ, Bool, true, false, not, nat_lt, nat_le, unsigned_abs, if◌then◌else◌, List, [], ◌∷◌, ◌++◌, map, length, take, drop, replicate, slice_index, Option, Some, None, Result, Ok, Err}
use Rattle.std.specs.List.{flat_map, list_any}
use Rattle.nd_model.specs.Arrays.Element.{Kind, Boolean}
use Rattle.nd_model.specs.Arrays.Tuple.{elements_of, number, first_index}
use Rattle.nd_model.specs.Arrays.View.{ElementType, One, Geo, rearranged_view}
use Rattle.nd_model.specs.Arrays.Content.{Content, number_in}
use Rattle.nd_model.specs.Cells.Fault.{Fault, IndexFault, Index, OutOfBounds, TooManyIndices, TwoEllipses, ZeroStep, MaskShape, IndexShapes}
use Rattle.nd_model.specs.Cells.Refusing.{◌>>=◌, when}
use Rattle.nd_model.specs.Arrays.Broadcast.{broadcast, own_tuple, in_limits}
use Rattle.nd_model.specs.Indexing.Selecting.{Item, At, Slice, Ellipsis, NewAxis, has_zero_step, whole_slice, counted_from, is_within, select}

-- an item: of a basic index, an array of whole numbers, or a mask
pub data IndexItem : Type 0 where
  Basic : Item → IndexItem
  Numbers : (shape : List ℕ) → List ℤ → IndexItem
  Mask : (shape : List ℕ) → List Bool → IndexItem

abbrev pub is_nonzero : ℤ → Bool
is_nonzero z = not (unsigned_abs z == 0)

abbrev pub kind_item : Kind → (shape : List ℕ) → List ℤ → IndexItem
kind_item Boolean shape zs = Mask shape (map is_nonzero zs)
kind_item k shape zs = Numbers shape zs

-- an array with its contents as an item: it has axes and holds numbers
abbrev pub array_item : ElementType → (shape : List ℕ) → List Content → Option IndexItem
array_item (One e) (n ∷ shape) cs = Some (kind_item e.kind (n ∷ shape) (map number_in cs))
array_item t shape cs = None

-- how many axes an item stands for, where `...` stands for so many
abbrev pub axes_of : (missing : ℕ) → IndexItem → ℕ
axes_of missing (Basic (At z)) = 1
axes_of missing (Basic (Slice start stop step)) = 1
axes_of missing (Basic Ellipsis) = missing
axes_of missing (Basic NewAxis) = 0
axes_of missing (Numbers shape zs) = 1
axes_of missing (Mask shape bs) = length shape

abbrev pub axes_in : (missing : ℕ) → List IndexItem → ℕ
axes_in missing [] = 0
axes_in missing (i ∷ is) = axes_of missing i + axes_in missing is

abbrev pub ellipses_of : IndexItem → ℕ
ellipses_of (Basic Ellipsis) = 1
ellipses_of i = 0

abbrev pub ellipses_in : List IndexItem → ℕ
ellipses_in [] = 0
ellipses_in (i ∷ is) = ellipses_of i + ellipses_in is

-- ---- refusals

-- the first of two
abbrev pub or_next : Option IndexFault → Option IndexFault → Option IndexFault
or_next (Some f) next = Some f
or_next None next = next

-- the first refusal from left to right: of each item by the first axis that it stands for
abbrev pub first_fault : (ℕ → IndexItem → Option IndexFault) → (missing axis : ℕ) → List IndexItem → Option IndexFault
first_fault fault missing axis [] = None
first_fault fault missing axis (i ∷ is) = or_next (fault axis i) (first_fault fault missing (axis + axes_of missing i) is)

-- the first axis that a mask covers and where it has another length
abbrev pub mask_fault : (sizes : List ℕ) → (axis : ℕ) → List ℕ → Option IndexFault
mask_fault sizes axis [] = None
mask_fault sizes axis (n ∷ shape) = if slice_index sizes axis == n then mask_fault sizes (axis + 1) shape else Some (MaskShape axis)

-- a step of 0, or a mask of another shape than the axes that it covers
abbrev pub shape_fault : (sizes : List ℕ) → (axis : ℕ) → IndexItem → Option IndexFault
shape_fault sizes axis (Basic i) = if has_zero_step i then Some ZeroStep else None
shape_fault sizes axis (Numbers shape zs) = None
shape_fault sizes axis (Mask shape bs) = mask_fault sizes axis shape

abbrev pub number_fault : (axis size : ℕ) → ℤ → Option IndexFault
number_fault axis size z = if is_within size z then None else Some (OutOfBounds axis z size)

-- the first number that is outside its axis
abbrev pub outside_fault : (axis size : ℕ) → List ℤ → Option IndexFault
outside_fault axis size [] = None
outside_fault axis size (z ∷ zs) = or_next (number_fault axis size z) (outside_fault axis size zs)

abbrev pub bounds_fault : (sizes : List ℕ) → (axis : ℕ) → IndexItem → Option IndexFault
bounds_fault sizes axis (Basic (At z)) = number_fault axis (slice_index sizes axis) z
bounds_fault sizes axis (Basic i) = None
bounds_fault sizes axis (Numbers shape zs) = outside_fault axis (slice_index sizes axis) zs
bounds_fault sizes axis (Mask shape bs) = None

abbrev pub unless_fault : {A : Type 0} → Option IndexFault → Result A Fault → Result A Fault
unless_fault None then_this = then_this
unless_fault (Some f) then_this = Err (Index f)

-- ---- the common shape of the arrays

-- the numbers in C order of the true elements
abbrev pub true_numbers : (from : ℕ) → List Bool → List ℕ
true_numbers from [] = []
true_numbers from (true ∷ bs) = from ∷ true_numbers (from + 1) bs
true_numbers from (false ∷ bs) = true_numbers (from + 1) bs

-- a mask is as an array with one number for each true element
abbrev pub joined_shape : List ℕ → IndexItem → Option (List ℕ)
joined_shape s (Basic i) = Some s
joined_shape s (Numbers shape zs) = broadcast s shape
joined_shape s (Mask shape bs) = broadcast s (length (true_numbers 0 bs) ∷ [])

abbrev pub and_joined : Option (List ℕ) → IndexItem → Option (List ℕ)
and_joined None i = None
and_joined (Some s) i = joined_shape s i

-- of a shape and those of all items
abbrev pub common_shape : Option (List ℕ) → List IndexItem → Option (List ℕ)
common_shape s [] = s
common_shape s (i ∷ is) = common_shape (and_joined s i) is

abbrev pub with_shape : {A : Type 0} → Option (List ℕ) → (List ℕ → Result A Fault) → Result A Fault
with_shape None then_this = Err (Index IndexShapes)
with_shape (Some s) then_this = then_this s

-- ---- slices

-- the slices of an index: all other axes are kept whole
abbrev pub slices_of : IndexItem → List Item
slices_of (Basic (At z)) = whole_slice ∷ []
slices_of (Basic (Slice start stop step)) = Slice start stop step ∷ []
slices_of (Basic Ellipsis) = Ellipsis ∷ []
slices_of (Basic NewAxis) = []
slices_of (Numbers shape zs) = whole_slice ∷ []
slices_of (Mask shape bs) = replicate (length shape) whole_slice

abbrev pub slices_in : List IndexItem → List Item
slices_in is = flat_map slices_of is

-- ---- what is taken of the axes that the slices leave

-- the index tuple of a number in C order
abbrev pub unravelled : (shape : List ℕ) → ℕ → List ℕ
unravelled [] k = []
unravelled (n ∷ shape) k = k / elements_of shape ∷ unravelled shape (k % elements_of shape)

-- a whole axis; an axis of length 1 that the array has not; or so many axes together, of which an array of this shape has the tuples
-- by their numbers in C order (of one axis these are its positions)
pub data Take : Type 0 where
  Whole : Take
  Added : Take
  Spread : (axes : ℕ) → (shape : List ℕ) → List ℕ → Take

abbrev pub takes_of : (missing size : ℕ) → IndexItem → List Take
takes_of missing size (Basic (At z)) = Spread 1 [] (counted_from size z ∷ []) ∷ []
takes_of missing size (Basic (Slice start stop step)) = Whole ∷ []
takes_of missing size (Basic Ellipsis) = replicate missing Whole
takes_of missing size (Basic NewAxis) = Added ∷ []
takes_of missing size (Numbers shape zs) = Spread 1 shape (map (counted_from size) zs) ∷ []
takes_of missing size (Mask shape bs) = Spread (length shape) (length (true_numbers 0 bs) ∷ []) (true_numbers 0 bs) ∷ []

-- axes that no item stands for are kept whole
abbrev pub takes_in : (missing axis : ℕ) → (sizes : List ℕ) → List IndexItem → List Take
takes_in missing axis sizes [] = replicate (length sizes - axis) Whole
takes_in missing axis sizes (i ∷ is) = takes_of missing (slice_index sizes axis) i ++ takes_in missing (axis + axes_of missing i) sizes is

-- the lengths of the axes that are kept
abbrev pub kept_shape : List Take → (sizes : List ℕ) → List ℕ
kept_shape [] sizes = []
kept_shape (Whole ∷ ts) sizes = first_index sizes ∷ kept_shape ts (drop 1 sizes)
kept_shape (Added ∷ ts) sizes = 1 ∷ kept_shape ts sizes
kept_shape (Spread axes shape ks ∷ ts) sizes = kept_shape ts (drop axes sizes)

-- the number of an array at a tuple of the common shape
abbrev pub number_at : (shape : List ℕ) → List ℕ → (m : List ℕ) → ℕ
number_at shape ks m = slice_index ks (number shape (own_tuple shape m))

-- the tuple of the sliced view, for a tuple m of the arrays and a tuple t of the kept axes
abbrev pub source : List Take → (sizes m t : List ℕ) → List ℕ
source [] sizes m t = []
source (Whole ∷ ts) sizes m t = first_index t ∷ source ts (drop 1 sizes) m (drop 1 t)
source (Added ∷ ts) sizes m t = source ts sizes m (drop 1 t)
source (Spread axes shape ks ∷ ts) sizes m t = unravelled (take axes sizes) (number_at shape ks m) ++ source ts (drop axes sizes) m t

-- ---- where the axes of the arrays stand

-- a whole number beside arrays counts as one
abbrev pub is_array : IndexItem → Bool
is_array (Basic (At z)) = true
is_array (Basic i) = false
is_array (Numbers shape zs) = true
is_array (Mask shape bs) = true

abbrev pub from_array : List IndexItem → List IndexItem
from_array [] = []
from_array (i ∷ is) = if is_array i then i ∷ is else from_array is

abbrev pub behind_arrays : List IndexItem → List IndexItem
behind_arrays [] = []
behind_arrays (i ∷ is) = if is_array i then behind_arrays is else i ∷ is

-- no slice, `...` or new axis stands between two arrays
abbrev pub are_together : List IndexItem → Bool
are_together is = not (list_any is_array (behind_arrays (from_array is)))

abbrev pub kept_before : List Take → ℕ
kept_before [] = 0
kept_before (Whole ∷ ts) = 1 + kept_before ts
kept_before (Added ∷ ts) = 1 + kept_before ts
kept_before (Spread axes shape ks ∷ ts) = 0

-- the axes of arrays that stand together take their place, and else they come first
abbrev pub place_for : List IndexItem → List Take → ℕ
place_for is ts = if are_together is then kept_before ts else 0

-- the axes of the arrays among those that are kept, from this one on
abbrev pub chosen_shape : (at : ℕ) → (many kept : List ℕ) → List ℕ
chosen_shape at many kept = take at kept ++ (many ++ drop at kept)

-- the tuple of the sliced view for a tuple of what is chosen
abbrev pub chosen_source : List Take → (sizes : List ℕ) → (at axes : ℕ) → List ℕ → List ℕ
chosen_source ts sizes at axes t = source ts sizes (take axes (drop at t)) (take at t ++ drop (at + axes) t)

abbrev pub chosen_view : List IndexItem → List Take → (many : List ℕ) → Geo → Result Geo Fault
chosen_view is ts many h =
    let at = place_for is ts in
    let shape = chosen_shape at many (kept_shape ts h.shape) in
    in_limits h.element shape (Ok (rearranged_view h shape (chosen_source ts h.shape at (length many))))

-- by an index that stands for no more axes than there are, with `...` for those that are missing. (The slices alone are not refused.)
abbrev pub choose_filled : (missing : ℕ) → List IndexItem → Geo → Result Geo Fault
choose_filled missing is g =
    unless_fault (first_fault (shape_fault g.shape) missing 0 is)
    (with_shape (common_shape (Some []) is) (λ many. unless_fault (first_fault (bounds_fault g.shape) missing 0 is)
    (select (slices_in is) g >>= chosen_view is (takes_in missing 0 g.shape is) many)))

-- THE ELEMENTS THAT AN INDEX CHOOSES, where they lie, or the first refusal
abbrev pub choose : List IndexItem → Geo → Result Geo Fault
choose is g =
    when (nat_lt (ellipses_in is) 2) (Index TwoEllipses)
    (when (nat_le (axes_in 0 is) (length g.shape)) (Index TooManyIndices)
    (choose_filled (length g.shape - axes_in 0 is) is g))
