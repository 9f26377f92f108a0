use Rattle.std.proofs.Common.{ℕ, ◌<◌, ◌≤◌, map, get_or}
use Rattle.nd_schedule.proofs.schedule.snapshots.count_front.Given as goal

abbrev pub invariant-loop-k : goal.invariant-loop-k
invariant-loop-k g l = (j : ℕ) → j < l.k → get_or (map (λ s. s.place) l.snapshots) j 0 ≤ l.front
