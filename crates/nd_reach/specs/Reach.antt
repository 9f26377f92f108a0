-- What a cell can come to while it runs: all but the bases that it made and that no bound value lies in any more.
use Rattle.std.specs.Prelude.{◌≡◌, ℕ, Bool, not, ◌&&◌, IsFalse, nat_eq, List}
use Rattle.nd_model.specs.Arrays.Value.{Base}
use Rattle.nd_model.specs.Cells.Session.{Session, is_held}
use Rattle.nd_model.specs.Cells.Running.{Inputs, Running, World}
use Rattle.nd_model.specs.Grammar.Syntax.{Line, Parsed}
use Rattle.nd_model.specs.Cells.Cell.{Saved, Ended, cell, session_after, statements}
use Rattle.nd_model.specs.Cells.Footprint.{reads_of, effects_of}

-- a base of the running cell that no bound value lies in
abbrev pub is_lost : Running → Base → Bool
is_lost r b = nat_eq b.label r.label && not (is_held b r.names)

-- THE SAME IN REACH: only lost bases may have other bytes
pub record IsSameInReach (x y : Running) : Type 0 where
  pub rest : record y { bytes = x.bytes } ≡ x
  pub bytes : (b : Base) → IsFalse (is_lost x b) → y.bytes b ≡ x.bytes b

-- ends that give the same, in sessions that are the same in reach
pub record EndsInReach (e f : Ended) : Type 0 where
  pub text : f.text ≡ e.text
  pub refusal : f.refusal ≡ e.refusal
  pub saves : f.saves ≡ e.saves
  pub running : IsSameInReach e.running f.running

-- THE LAW OF REACH: statements give the same over sessions that are the same in reach
abbrev pub ReachIsAll : Type 0
ReachIsAll = (i : Inputs) (ls : List Line) (text : List ℕ) (saves : Saved) (x y : Running) → IsSameInReach x y
    → EndsInReach (statements i ls text saves x) (statements i ls text saves y)

-- An end that is a cell's in reach has the same reads and effects, and leaves the same session.
pub record HasSameEnd (e f : Ended) : Type 0 where
  pub reads : reads_of f ≡ reads_of e
  pub effects : effects_of f ≡ effects_of e
  pub after : session_after f ≡ session_after e

abbrev pub EndIsAll : Type 0
EndIsAll = (label : ℕ) (p : Parsed) (w : World) (s : Session) (f : Ended) → EndsInReach (cell label p w s) f → HasSameEnd (cell label p w s) f
