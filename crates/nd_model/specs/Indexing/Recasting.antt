-- The same bytes as numbers of another kind or order, as NumPy's `ndarray.view` gives them.
use Rattle.std.specs.Prelude.{ℕ, ◌+◌, ◌*◌, ◌/◌, ◌%◌, ◌==◌, ◌&&◌, not, Bool, if◌then◌else◌, List, [], ◌∷◌, map, length, Result, Ok}
use Rattle.std.specs.List.{list_all}
use Rattle.nd_model.specs.Arrays.Element.{Element, size_of}
use Rattle.nd_model.specs.Arrays.Tuple.{indices}
use Rattle.nd_model.specs.Arrays.View.{Geo, One, item_size, place_of}
use Rattle.nd_model.specs.Arrays.Broadcast.{in_limits}
use Rattle.nd_model.specs.Making.Creation.{is_number_type}
use Rattle.nd_model.specs.Cells.Fault.{Fault, View, ItemSizes}
use Rattle.nd_model.specs.Cells.Refusing.{when}

-- the last number of a shape or a tuple, 0 where there is none
abbrev pub last_of : List ℕ → ℕ
last_of [] = 0
last_of (n ∷ []) = n
last_of (n ∷ m ∷ ns) = last_of (m ∷ ns)

-- another number in its place
abbrev pub with_last : List ℕ → ℕ → List ℕ
with_last [] k = []
with_last (n ∷ []) k = k ∷ []
with_last (n ∷ m ∷ ns) k = n ∷ with_last (m ∷ ns) k

-- the place where the last axis begins, at an index tuple
abbrev pub row_start : Geo → List ℕ → ℕ
row_start g t = place_of g (with_last t 0)

-- each element along the last axis lies right behind the one before
abbrev pub has_whole_rows : Geo → Bool
has_whole_rows g = list_all (λ t. place_of g t == row_start g t + last_of t * item_size g.element) (indices g.shape)

-- how many bytes the last axis has
abbrev pub row_bytes : Geo → ℕ
row_bytes g = last_of g.shape * item_size g.element

-- there is a last axis, it has no gaps, and its bytes are whole numbers of the new kind
abbrev pub can_recast : Element → Geo → Bool
can_recast e g = not (length g.shape == 0) && (has_whole_rows g && (row_bytes g % size_of e.kind == 0))

abbrev pub recast_shape : Element → Geo → List ℕ
recast_shape e g = with_last g.shape (row_bytes g / size_of e.kind)

-- element j of the last axis lies j times the new size behind its start
abbrev pub recast_view : Element → Geo → Geo
recast_view e g = record {
  element = One e;
  shape = recast_shape e g;
  writable = g.writable;
  places = map (λ t. row_start g t + last_of t * size_of e.kind) (indices (recast_shape e g));
}

-- THE VIEW OF THE SAME BYTES as numbers of this kind and order, or the first refusal; structures of another size are not seen so
abbrev pub view_as : Element → Geo → Result Geo Fault
view_as e g =
    if item_size g.element == size_of e.kind then Ok (record g { element = One e })
    else when (is_number_type g.element && can_recast e g) (View ItemSizes) (in_limits (One e) (recast_shape e g) (Ok (recast_view e g)))
