use Rattle.std.proofs.Common.{◌≡◌, length}
use Rattle.nd_schedule.proofs.schedule.notebook.Schedule.draft.Given as goal

abbrev pub invariant-loop-place : goal.invariant-loop-place
invariant-loop-place g l = length l.hints.items ≡ l.place
