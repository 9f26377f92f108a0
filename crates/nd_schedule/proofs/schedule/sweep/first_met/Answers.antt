use Rattle.std.proofs.Common.{inl, refl}
use Rattle.nd_schedule.proofs.schedule.sweep.first_met.Goals as goal

pub returns-then-is_empty-clause-apart : goal.returns-then-is_empty-clause-apart
returns-then-is_empty-clause-apart g c = inl (c.if-is_empty.ensures refl)
