-- A pass over a notebook that runs some cells and replays the records of the others.
use Rattle.std.specs.Prelude.{◌≡◌, ℕ, Bool, true, false, List, [], ◌∷◌, Option, Some, IfSome}
use Rattle.nd_model.specs.Cells.Session.{Session}
use Rattle.nd_model.specs.Cells.Running.{World}
use Rattle.nd_model.specs.Grammar.Syntax.{Parsed}
use Rattle.nd_model.specs.Cells.Cell.{Ended, cell, session_after, notebook}
use Rattle.nd_model.specs.Cells.Footprint.{HasNone, with_effects}
use Rattle.nd_model.specs.Book.Records.{Record, record_of, StillHolds}
use Rattle.nd_model.specs.Book.Renaming.{Told, told, shown_names}

-- the record of some run of the cell
abbrev pub IsOfRun : ℕ → Parsed → Record → Type 0
IsOfRun label p r = (i : World) × (s : Session) × HasNone label s × (r ≡ record_of label p i s)

-- a cell, and the record of a run of it where one is kept
pub record Slot : Type 0 where
  pub label : ℕ
  pub parsed : Parsed
  pub kept : Option Record

abbrev pub AreOfRuns : List Slot → Type 0
AreOfRuns [] = Unit {0}
AreOfRuns (c ∷ cs) = IfSome c.kept (IsOfRun c.label c.parsed) × AreOfRuns cs

-- the records of running all cells in order
abbrev pub records : List Slot → World → Session → List Record
records [] i s = []
records (c ∷ cs) i s = record_of c.label c.parsed i s ∷ records cs i (session_after (cell c.label c.parsed i s))

-- From s, a cell with a flag was run, and another had a record that still held, whose effects stood for a run.
abbrev pub Passes : World → Session → List Slot → List Bool → List Record → Type 0
Passes i s [] [] [] = Unit {0}
Passes i s (c ∷ cs) (true ∷ fs) (r ∷ rs) = (r ≡ record_of c.label c.parsed i s) × Passes i (session_after (cell c.label c.parsed i s)) cs fs rs
Passes i s (c ∷ cs) (false ∷ fs) (r ∷ rs) = (c.kept ≡ Some r) × StillHolds r s i × Passes i (with_effects c.label r.effects s) cs fs rs
Passes i s [] (f ∷ fs) rs = ⊥
Passes i s [] [] (r ∷ rs) = ⊥
Passes i s (c ∷ cs) [] rs = ⊥
Passes i s (c ∷ cs) (f ∷ fs) [] = ⊥

-- the sessions after each cell of such a pass
abbrev pub sessions_by : World → Session → List Slot → List Bool → List Record → List Session
sessions_by i s (c ∷ cs) (true ∷ fs) (r ∷ rs) = let t = session_after (cell c.label c.parsed i s) in t ∷ sessions_by i t cs fs rs
sessions_by i s (c ∷ cs) (false ∷ fs) (r ∷ rs) = let t = with_effects c.label r.effects s in t ∷ sessions_by i t cs fs rs
sessions_by i s cs fs rs = []

-- what is told of them, by the records and the sessions
abbrev pub told_of : Record → Session → Told
told_of r s = record { text = r.effects.text; refusal = r.effects.refusal; saves = r.effects.saves; names = shown_names s s.names }

abbrev pub told_by : List Record → List Session → List Told
told_by (r ∷ rs) (s ∷ ss) = told_of r s ∷ told_by rs ss
told_by rs ss = []

abbrev pub cells_of : List Slot → List (ℕ × Parsed)
cells_of [] = []
cells_of (c ∷ cs) = (c.label, c.parsed) ∷ cells_of cs

abbrev pub sessions_of : List (Ended × Session) → List Session
sessions_of [] = []
sessions_of (e ∷ es) = e.1 ∷ sessions_of es

-- ANY PASS: whichever cells were run, the records are those of running all, and so are the sessions and all that is told
abbrev pub AnyPass : Type 0
AnyPass = (i : World) (s : Session) (cs : List Slot) (fs : List Bool) (rs : List Record) → AreOfRuns cs → Passes i s cs fs rs
    → (rs ≡ records cs i s) × (sessions_by i s cs fs rs ≡ sessions_of (notebook (cells_of cs) i s)) × (told_by rs (sessions_by i s cs fs rs) ≡ told (notebook (cells_of cs) i s))
