-- What a write notes as read.
use Rattle.std.specs.Prelude.{◌≡◌, ℕ, List, Ok}
use Rattle.nd_model.specs.Arrays.Value.{Base}
use Rattle.nd_model.specs.Cells.Running.{Inputs, Running, Storing, done}
use Rattle.nd_model.specs.Grammar.Syntax.{Stmt}
use Rattle.nd_model.specs.Cells.Evaluation.{run}
use Rattle.nd_model.specs.Cells.Meaning.{meaning}

-- WRITES READ NO MORE: the length that a statement's write notes was read before, or is that of the cell's own base
abbrev pub WritesReadNoMore : Type 0
WritesReadNoMore = (i : Inputs) (s : Stmt) (r : Running) (b : Base) (ws : List (ℕ × ℕ))
    → (run i (meaning s) r).0 ≡ Ok (Storing b ws) → (done (Storing b ws) (run i (meaning s) r).1).read ≡ (run i (meaning s) r).1.read
