use Rattle.std.proofs.Common.{rules}
use mir.Facts.{to_z-of_z}
use Rattle.nd_convert.proofs.creation.filling.fill_up_known.Goals as goal

pub returns-then-eq : goal.returns-then-eq
returns-then-eq c =
    let filled = simp (to_z-of_z, c.ranges.start, c.ranges.step) at c.fill_up_each.ensures in
    search (rules, filled, c.eq.ensures, c.if-eq.true)
