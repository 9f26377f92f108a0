use Rattle.std.proofs.Common.{arith}
use Rattle.nd_view.proofs.Counts.{factor}
use Rattle.nd_view.proofs.parts.extent_of.Goals as goal

pub before-requires : goal.before-requires
before-requires c =
    let length = factor c.args.shape.now c.loop-axis.axis 0 c.requires.some c.loop-axis-test.true in (length.0, omega (arith, length.1, c.requires.elements))

pub behind-requires : goal.behind-requires
behind-requires c =
    let length = factor c.args.shape.now c.loop-axis.axis 0 c.requires.some c.loop-axis-test.true in (length.0, omega (arith, length.1, c.requires.elements))
