-- Labels of cells that are in use.
use Rattle.std.specs.Prelude.{◌<◌, ℕ, IsTrue, List}
use Rattle.nd_model.specs.Book.Book.{Cell, is_label}

-- each number below this one is the label of some cell
abbrev pub AreUsed : ℕ → List Cell → Type 0
AreUsed least cs = (n : ℕ) → n < least → IsTrue (is_label n cs)
