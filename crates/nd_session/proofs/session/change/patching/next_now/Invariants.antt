use Rattle.std.proofs.Common.{◌≤◌}
use Rattle.nd_session.proofs.session.change.patching.next_now.Given as goal

abbrev pub invariant-loop-i : goal.invariant-loop-i
invariant-loop-i l = l.next ≤ l.later
