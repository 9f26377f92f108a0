-- A sweep in parts, from one snapshot to the next.
use Rattle.std.proofs.Common.{ℕ, ◌+◌, ◌-◌, ◌≤◌, List, subst, arith}
use Rattle.nd_model.specs.Cells.Session.{Session}
use Rattle.nd_model.specs.Cells.Running.{World}
use Rattle.nd_model.specs.Book.Records.{Record}
use Rattle.nd_model.specs.Book.Book.{Book, Cell}
use Rattle.nd_change.specs.Change.{Change}
use Rattle.nd_schedule.specs.Schedule.Snapshot.{IsChangeAt}
use Rattle.nd_schedule.specs.Schedule.Sweep.{CountsFront, IsAt, IsFrame}
use Rattle.nd_schedule.proofs.schedule.Visiting.{both_parts, frame_part}

pub itself : (n : ℕ) → n ≤ n
itself n = omega arith

module _ (old new : Book) (i j to : ℕ) (cs : List Cell) (rs : List Record) (given : World) (frame : IsFrame old new i j to cs rs given) (k n : ℕ) (le : i ≤ k) (order : k ≤ n) (below : n ≤ to) where
  pub part : IsFrame old new k (j + (k - i)) n cs rs given
  part = frame_part old new i j to cs rs given frame k n le order below

  pub at_part : (c : Change) (s : Session) (since : ℕ) → IsAt old new n (j + (k - i) + (n - k)) c s since → IsAt old new n (j + (n - i)) c s since
  at_part c s since at = subst (λ m. IsAt old new n m c s since) (both_parts i j k n le order) at

  pub counts_part : (before after : ℕ) → CountsFront old new (j + (k - i) + (n - k)) before after → CountsFront old new (j + (n - i)) before after
  counts_part before after h = subst (λ m. CountsFront old new m before after) (both_parts i j k n le order) h

  pub noted_part : (c : Change) (s : Session) (since : ℕ) → IsAt old new n (j + (n - i)) c s since → IsChangeAt old new n (j + (n - i)) c
  noted_part c s since at = record { within = omega (arith, frame.beside.fits); over = at.over }
