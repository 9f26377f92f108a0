-- Records of runs, and when one may stand for a run.
use Rattle.std.specs.Prelude.{◌≡◌, ℕ, Bool, IsTrue, if◌then◌else◌, Option, Some, None}
use Rattle.nd_model.specs.Cells.Session.{Session}
use Rattle.nd_model.specs.Cells.Running.{Key, World}
use Rattle.nd_model.specs.Grammar.Syntax.{Parsed}
use Rattle.nd_model.specs.Cells.Cell.{cell, session_after}
use Rattle.nd_model.specs.Cells.Footprint.{Found, found, HasNone, Effects, reads_of, effects_of, with_effects}

-- what a run read, with what it found there, and its effects
pub record Record : Type 0 where
  pub label : ℕ
  pub read : Key → Bool
  pub values : Key → Option Found
  pub effects : Effects

abbrev pub record_of : ℕ → Parsed → World → Session → Record
record_of label p i s =
    let e = cell label p i s in
    record {
      label = label;
      read = reads_of e;
      values = λ k. if reads_of e k then Some (found s i k) else None;
      effects = effects_of e;
    }

-- no base of the label is in the session, and what was read is there as it was found
pub record StillHolds (r : Record) (s : Session) (i : World) : Type 0 where
  pub none : HasNone r.label s
  pub same : (k : Key) → IsTrue (r.read k) → r.values k ≡ Some (found s i k)

-- A record that still holds is the record of the run that it stands for, and its effects give the session after that run.
abbrev pub Kept : Type 0
Kept = (label : ℕ) (p : Parsed) (s t : Session) (i j : World) → HasNone label s → StillHolds (record_of label p i s) t j
    → (record_of label p j t ≡ record_of label p i s) × (session_after (cell label p j t) ≡ with_effects label (record_of label p i s).effects t)
