use Rattle.std.proofs.Common.{◌+◌}
use Rattle.nd_reduce.proofs.axes.Emptied.{tail_is, front_empty, behind_empty}
use Rattle.nd_reduce.proofs.axes.axis.has_no_lanes.Goals as goal

pub returns-then-contains : goal.returns-then-contains
returns-then-contains c = front_empty c.args.axis c.in-Some.axis c.args.shape.now c.in-Some.is c.contains.result c.contains.ensures.value c.if-contains.true

pub returns-else-contains : goal.returns-else-contains
returns-else-contains c =
    behind_empty c.args.axis c.in-Some.axis c.args.shape.now c.in-Some.is c.contains.result c.contains-else-contains.result _ c.contains.ensures.value c.if-contains.false
    (tail_is (c.in-Some.axis + 1) c.args.shape.now) c.contains-else-contains.ensures.value
