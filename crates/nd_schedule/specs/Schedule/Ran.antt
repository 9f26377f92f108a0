-- Which cells an edit runs.
use Rattle.std.specs.Prelude.{◌↔◌, ℕ, ◌+◌, ◌-◌, ◌<◌, ◌≤◌, Contains, List, [], ◌∷◌, length, Option, Some, None, ⊤}
use Rattle.nd_model.specs.Book.Book.{Book}
use Rattle.nd_model.specs.Book.Entries.{entry_at}
use Rattle.nd_model.specs.Book.Stale.{IsStale}
use Rattle.nd_schedule.specs.declared.schedule.ran.Shift.{Shift}
use Rattle.nd_schedule.specs.declared.schedule.ran.Shift.TheVariants as shift

-- numbers from one on and below another, in order, each once
abbrev pub AreBetween : (low high : ℕ) → List ℕ → Type 0
AreBetween low high [] = ⊤
AreBetween low high (p ∷ ps) = (low ≤ p) × (p < high) × AreBetween (p + 1) high ps

-- of the cells from a place on and below another, the places of the stale ones
pub record AreStaleIn (old new : Book) (low high : ℕ) (places : List ℕ) : Type 0 where
  pub order : AreBetween low high places
  pub stale : (p : ℕ) → low ≤ p → p < high → Contains places p ↔ IsStale old new (entry_at new p)

-- THE CELLS THAT AN EDIT RUNS are the stale ones: their places in the notebook now, in order, each once.
abbrev pub AreStale : (old new : Book) → (places : List ℕ) → Type 0
AreStale old new places = AreStaleIn old new 0 (length new.cells) places

-- the place now of a cell that stood at another before
abbrev pub shifted : Shift → ℕ → ℕ
shifted shift.Stays place = place
shifted shift.Later place = place + 1
shifted shift.Earlier place = place - 1

-- the place of a cell that moved, where it was run
abbrev pub place_made : {X : Type 0} → Option X → ℕ → List ℕ
place_made None to = []
place_made (Some made) to = to ∷ []
