use Rattle.std.proofs.Common.{refl}
use Rattle.nd_assign.proofs.Crossed.{by_rows}
use Rattle.nd_assign.proofs.grid.band_of.Goals as goal

pub returns-then-end_before-2-clause-apart : goal.returns-then-end_before-2-clause-apart
returns-then-end_before-2-clause-apart c = by_rows c.args.target c.args.size c.if-target-size.false (c.if-end_before-2.ensures refl)
