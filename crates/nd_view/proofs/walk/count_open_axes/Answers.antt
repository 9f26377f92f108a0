use Rattle.std.proofs.Common.{◌-◌, arith}
use Rattle.nd_view.proofs.Steps.{length-index, below, no_axes, last_more}
use Rattle.nd_view.proofs.walk.count_open_axes.Goals as goal

pub loop-axes-init : goal.loop-axes-init
loop-axes-init c = record { inside = omega arith; ends = no_axes c.args.shape.now c.args.index.now c.requires }

pub bounds-index-axes : goal.bounds-index-axes
bounds-index-axes c = omega (arith, length-index c.args.shape.now c.args.index.now c.requires)

pub overflow_add-index : goal.overflow_add-index
overflow_add-index c =
    omega (arith, c.type_inv.shape (c.loop-axes.axes - 1), below c.args.shape.now c.args.index.now (c.loop-axes.axes - 1) c.requires (omega (arith, length-index c.args.shape.now c.args.index.now c.requires)))

pub loop-axes-preserved : goal.loop-axes-preserved
loop-axes-preserved c = record {
  inside = omega arith;
  ends = last_more c.args.shape.now c.args.index.now c.loop-axes.axes c.requires (omega arith) (omega arith) c.if-index-axes.true c.loop-axes.invariant.ends;
}

pub returns-else-index-axes-clause-inside : goal.returns-else-index-axes-clause-inside
returns-else-index-axes-clause-inside c = omega (arith, length-index c.args.shape.now c.args.index.now c.requires)

pub returns-else-index-axes-clause-further : goal.returns-else-index-axes-clause-further
returns-else-index-axes-clause-further c = λ some. omega (arith, below c.args.shape.now c.args.index.now (c.loop-axes.axes - 1) c.requires (omega (arith, length-index c.args.shape.now c.args.index.now c.requires)))
