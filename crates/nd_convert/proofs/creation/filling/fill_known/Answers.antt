use Rattle.std.proofs.Common.{rules}
use mir.Facts.{to_z-of_z}
use Rattle.nd_convert.proofs.creation.filling.fill_known.Goals as goal

pub returns-then-eq : goal.returns-then-eq
returns-then-eq c =
    let filled = simp (to_z-of_z, c.ranges.number) at c.fill_each.ensures in
    search (rules, filled, c.eq.ensures, c.if-eq.true)
