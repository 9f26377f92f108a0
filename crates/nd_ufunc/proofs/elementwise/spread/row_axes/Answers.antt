use Rattle.std.proofs.Common.{length, sym, ap, arith}
use Rattle.std.proofs.lemmas.List.{drop_all}
use Rattle.nd_model.specs.Arrays.Tuple.{elements_of}
use Rattle.nd_view.proofs.Evened.{count_before}
use Rattle.nd_ufunc.proofs.elementwise.spread.row_axes.Goals as goal

pub loop-axes-init : goal.loop-axes-init
loop-axes-init c = record { within = omega arith; ones = ap elements_of (drop_all (length c.args.shape.now) c.args.shape.now (omega arith)) }

pub loop-axes-preserved : goal.loop-axes-preserved
loop-axes-preserved c =
    let all = count_before c.args.shape.now c.loop-axes.axes 1 (omega arith) c.loop-axes.invariant.within (sym c.loop-axes.invariant.ones) in
    record { within = omega (arith, c.loop-axes.invariant.within); ones = omega (arith, all, c.if-shape-axes-eq1.true) }
