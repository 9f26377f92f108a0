-- The bytes of a block after an assignment.
use Rattle.std.specs.Prelude.{ℕ, ℤ, List, [], ◌∷◌, map}
use Rattle.nd_model.specs.Making.Assigning.{value_shape, assigned_writes}
use Rattle.nd_model.specs.Arrays.Content.{Num, content_at}
use Rattle.nd_model.specs.Cells.Session.{put}
use Rattle.nd_model.specs.Arrays.View.{Geo}

-- the elements of a view of these bytes are assigned to the target
abbrev pub with_elements : (target source : Geo) → (bytes : List ℕ) → List ℕ → List ℕ
with_elements g s bytes old =
    put (assigned_writes g (value_shape s.shape g.shape) (map (content_at s.element bytes) s.places)) old

-- one number is assigned to each element of the target
abbrev pub with_number : Geo → ℤ → List ℕ → List ℕ
with_number g z old = put (assigned_writes g [] (Num z ∷ [])) old
