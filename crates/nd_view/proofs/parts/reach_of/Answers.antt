use Rattle.std.proofs.Common.{arith}
use Rattle.std.proofs.lemmas.Grind.{common_steps}
use Rattle.nd_view.proofs.Counts.{factor}
use Rattle.nd_view.proofs.parts.reach_of.Goals as goal

pub reach-all-requires-clause-some : goal.reach-all-requires-clause-some
reach-all-requires-clause-some c = (factor c.args.shape.now c.loop-axis.axis 0 c.requires.some c.loop-axis-test.true).0

pub reach-all-requires-clause-limit : goal.reach-all-requires-clause-limit
reach-all-requires-clause-limit c = grind (arith, common_steps)
