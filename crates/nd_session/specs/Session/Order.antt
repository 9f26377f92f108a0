-- The order of names.
use Rattle.std.specs.Prelude.{◌≡◌, ℕ, List, map}
use Rattle.nd_model.specs.Cells.Session.{Names}
use Rattle.nd_model.specs.Cells.Running.{Event}
use Rattle.nd_model.specs.Cells.Footprint.{replayed}

-- the names of entries, in order
abbrev pub names_in : {A : Type 0} → List (List ℕ × A) → List (List ℕ)
names_in es = map (λ e. e.0) es

-- the order of names behind events, from that before them
abbrev pub IsOrderBehind : List (List ℕ) → List Event → List (List ℕ) → Type 0
IsOrderBehind before es order = (names : Names) → names_in names ≡ before → names_in (replayed es names) ≡ order
