-- Cells that a change does not meet, by their words.
use Rattle.std.specs.Prelude.{ℕ, ◌<◌, ◌≤◌, Bool, IsTrue, List, slice_index_or}
use Rattle.nd_model.specs.Cells.Running.{Key}

-- no word from a place up to another covers a key that this one covers
abbrev pub AreApart : {W : Type 0} → (W → Key → Bool) → List W → W → (from to : ℕ) → Type 0
AreApart {W} covers ws v from to = (k : ℕ) (w : W) (key : Key) → from ≤ k → k < to → IsTrue (covers (slice_index_or ws k w) key) → ¬ IsTrue (covers v key)
