use Rattle.std.proofs.Common.{ap, ◌∙◌, arith}
use Rattle.std.specs.Prelude.{slice_set}
use Rattle.nd_view.proofs.Steps.{cleared}
use Rattle.nd_view.proofs.walk.clear_from.Goals as goal

pub loop-axis-preserved : goal.loop-axis-preserved
loop-axis-preserved c = ap (λ xs. slice_set xs c.loop-axis.axis 0) c.loop-axis.invariant ∙ cleared c.args.index.now c.args.from c.loop-axis.axis (omega arith) (omega arith)
