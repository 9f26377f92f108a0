-- Elements that are read as they stood, while those that they stand beside are written.
use Rattle.std.specs.Prelude.{ℕ, ◌+◌, ◌*◌, ◌<◌, ◌≤◌, List, [], ◌∷◌}

-- Elements of so many bytes, which stand beside those of a target from this number on, lie before the target or not before the
-- element that they stand beside. The target's elements lie `step` bytes apart from `first` on.
abbrev pub KeepsOff : (size first step at : ℕ) → List ℕ → Type 0
KeepsOff size first step at [] = Unit {0}
KeepsOff size first step at (q ∷ qs) = (first < q + size → first + at * step ≤ q) × KeepsOff size first step (at + 1) qs
