-- Views of a greater shape, as NumPy's `broadcast_to` gives them.
use Rattle.std.specs.Prelude.{ℕ, List, Result, Ok}
use Rattle.nd_model.specs.Arrays.View.{Geo}
use Rattle.nd_model.specs.Arrays.Broadcast.{broadcasts_to, broadcast_view, in_limits}
use Rattle.nd_model.specs.Indexing.ShapeFault.{ShapeMismatch}
use Rattle.nd_model.specs.Cells.Fault.{Fault, Shape}
use Rattle.nd_model.specs.Cells.Refusing.{when}

-- THE VIEW THAT IS STRETCHED to this shape, or the first refusal
abbrev pub broadcast_to : List ℕ → Geo → Result Geo Fault
broadcast_to shape g =
    in_limits g.element shape (when (broadcasts_to g.shape shape) (Shape ShapeMismatch) (Ok (broadcast_view g shape)))
