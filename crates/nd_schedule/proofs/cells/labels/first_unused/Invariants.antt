use Rattle.std.proofs.Common.{◌≡◌, ℕ, ◌≤◌, ◌<◌, true, false, get_or}
use Rattle.nd_schedule.proofs.cells.labels.first_unused.Given as goal

abbrev pub invariant-loop-place : goal.invariant-loop-place
invariant-loop-place l = (n : ℕ) → l.from ≤ n → n < l.place → get_or l.used n false ≡ true
