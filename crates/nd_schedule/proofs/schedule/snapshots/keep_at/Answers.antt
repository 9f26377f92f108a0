use Rattle.std.proofs.Common.{arith}
use Rattle.std.proofs.lemmas.Grind.{common_steps}
use Rattle.nd_schedule.proofs.schedule.snapshots.keep_at.Goals as goal

pub returns-clause-same : goal.returns-clause-same
returns-clause-same g c = grind (arith, common_steps)

pub returns-clause-snapshots : goal.returns-clause-snapshots
returns-clause-snapshots g c = grind (arith, common_steps)

pub returns-in_default-clause-same : goal.returns-in_default-clause-same
returns-in_default-clause-same g c = grind (arith, common_steps)

pub returns-in_default-clause-snapshots : goal.returns-in_default-clause-snapshots
returns-in_default-clause-snapshots g c = grind (arith, common_steps)

pub returns-then-not-is_due-clause-same : goal.returns-then-not-is_due-clause-same
returns-then-not-is_due-clause-same g c = grind (arith, common_steps)

pub returns-then-not-is_due-clause-snapshots : goal.returns-then-not-is_due-clause-snapshots
returns-then-not-is_due-clause-snapshots g c = grind (arith, common_steps)
