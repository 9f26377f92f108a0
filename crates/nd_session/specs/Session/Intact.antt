-- What is true of every session: each array that a name is bound to lies in its block.
use Rattle.std.specs.Prelude.{◌≡◌, ℕ, ◌<◌, List, length}
use Rattle.nd_model.specs.Arrays.View.{Geo}
use Rattle.nd_model.specs.Arrays.Value.{Base}
use Rattle.nd_model.specs.Cells.Session.{Names}
use Rattle.nd_model.specs.Cells.Sound.{LiesIn, AreViewsOf}
use Rattle.nd_session.specs.declared.session.session.Session.TheInside.{Inside}
use Rattle.nd_heap.specs.Live.{bytes_at}

-- it lies in its block, and a block of the running cell has a number below the next one
pub record LiesThere (label next : ℕ) (bytes : Base → List ℕ) (b : Base) (g : Geo) : Type 0 where
  pub lies : LiesIn (length (bytes b)) g
  pub old : b.label ≡ label → b.number < next

abbrev pub AllLie : ℕ → ℕ → (Base → List ℕ) → Names → Type 0
AllLie label next bytes names = AreViewsOf (LiesThere label next bytes) names

abbrev pub IsIntact : Inside → Type 0
IsIntact s = AllLie s.trace.label s.next (bytes_at s.heap.blocks) s.heap.names
