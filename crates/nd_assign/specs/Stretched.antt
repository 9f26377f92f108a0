-- A value as it stands beside a target: the places of its elements at the target's index tuples, and the strides that lead there.
use Rattle.std.specs.Prelude.{ℕ, ◌==◌, ℤ, pos, if◌then◌else◌, List, [], ◌∷◌, map, slice_index}
use Rattle.nd_model.specs.Making.Assigning.{value_shape}
use Rattle.nd_model.specs.Arrays.Broadcast.{own_tuple}
use Rattle.nd_model.specs.Arrays.Tuple.{indices, number}
use Rattle.nd_model.specs.Arrays.View.{Geo}

-- the stride of an axis, 0 where its length is 1
abbrev pub narrowed : ℕ → ℤ → ℤ
narrowed n s = if n == 1 then pos 0 else s

-- the strides of a shape
abbrev pub narrowed_strides : List ℕ → List ℤ → List ℤ
narrowed_strides [] strides = []
narrowed_strides (n ∷ shape) [] = []
narrowed_strides (n ∷ shape) (s ∷ strides) = narrowed n s ∷ narrowed_strides shape strides

-- the places of the elements that are assigned at the tuples of this shape, in C order
abbrev pub value_places : Geo → List ℕ → List ℕ
value_places g shape =
    let own = value_shape g.shape shape in
    map (λ t. slice_index g.places (number own (own_tuple own t))) (indices shape)
