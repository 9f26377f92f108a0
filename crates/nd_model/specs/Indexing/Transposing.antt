-- Other orders of the axes, as NumPy's `transpose` gives them.
use Rattle.std.specs.Prelude.{ℕ, zero, suc, ◌==◌, ◌&&◌, Bool, ℤ, if◌then◌else◌, List, [], ◌∷◌, map, length, slice_index, Result, Ok}
use Rattle.std.specs.List.{list_all}
use Rattle.nd_model.specs.Arrays.Tuple.{count_up}
use Rattle.nd_model.specs.Arrays.View.{Geo, rearranged_view}
use Rattle.nd_model.specs.Cells.Session.{is_in}
use Rattle.nd_model.specs.Indexing.Selecting.{counted_from, is_within}
use Rattle.nd_model.specs.Indexing.ShapeFault.{BadAxes}
use Rattle.nd_model.specs.Cells.Fault.{Fault, Shape}
use Rattle.nd_model.specs.Cells.Refusing.{when}

-- the axes that are meant; a negative one counts from the end
abbrev pub axes_of : ℕ → List ℤ → List ℕ
axes_of n zs = map (counted_from n) zs

-- they are the axes of an array of n axes in some order: n of them, and each is there
abbrev pub is_order : ℕ → List ℤ → Bool
is_order n zs = (length zs == n) && (list_all (is_within n) zs && list_all (λ a. is_in a (axes_of n zs)) (count_up 0 n))

-- where a number stands in a list
abbrev pub position_in : List ℕ → ℕ → ℕ
position_in [] n = 0
position_in (m ∷ ms) n = if n == m then 0 else suc (position_in ms n)

-- the array's tuple for a tuple of the view whose axis k is its axis `axes[k]`
abbrev pub ordered_tuple : List ℕ → (axes : ℕ) → List ℕ → List ℕ
ordered_tuple order axes t = map (λ a. slice_index t (position_in order a)) (count_up 0 axes)

abbrev pub transposed_view : Geo → List ℕ → Geo
transposed_view g order = rearranged_view g (map (slice_index g.shape) order) (ordered_tuple order (length g.shape))

-- THE VIEW WITH THE AXES IN THIS ORDER
abbrev pub transpose : List ℤ → Geo → Result Geo Fault
transpose zs g = when (is_order (length g.shape) zs) (Shape BadAxes) (Ok (transposed_view g (axes_of (length g.shape) zs)))

-- the numbers below n, the greatest first
abbrev pub count_down : ℕ → List ℕ
count_down zero = []
count_down (suc n) = n ∷ count_down n

-- the axes the other way round, `.T`
abbrev pub reversed_view : Geo → Geo
reversed_view g = transposed_view g (count_down (length g.shape))
