use Rattle.nd_schedule.specs.Schedule.Apart.{AreApart}
use Rattle.nd_schedule.proofs.schedule.sweep.first_met.Given as goal

abbrev pub invariant-loop-k : goal.invariant-loop-k
invariant-loop-k g l = AreApart g.C.CellRunner.covers l.words l.state.word l.from l.k
