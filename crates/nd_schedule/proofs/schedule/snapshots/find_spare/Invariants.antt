use Rattle.std.proofs.Common.{◌<◌, IfSome, length}
use Rattle.nd_schedule.proofs.schedule.snapshots.find_spare.Given as goal

abbrev pub invariant-loop-k : goal.invariant-loop-k
invariant-loop-k g l = IfSome l.spare (λ k. k < length l.snapshots)
