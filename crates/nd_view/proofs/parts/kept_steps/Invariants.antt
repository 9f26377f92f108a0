use Rattle.std.proofs.Common.{◌≡◌, ◌++◌, drop}
use Rattle.nd_model.specs.Arrays.Tuple.{elements_of}
use Rattle.nd_view.specs.Strides.{kept_all}
use Rattle.nd_view.proofs.parts.kept_steps.Given as goal

abbrev pub invariant-loop-axis : goal.invariant-loop-axis
invariant-loop-axis l =
    l.all.items ++ kept_all (elements_of l.shape) (drop l.axis l.shape) (drop l.axis l.strides) ≡ kept_all (elements_of l.shape) l.shape l.strides
