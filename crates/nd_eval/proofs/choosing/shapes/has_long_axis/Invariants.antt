use Rattle.std.proofs.Common.{◌≡◌, drop}
use Rattle.nd_model.specs.Indexing.ShapeChoices.{has_long_axis}
use Rattle.nd_eval.proofs.choosing.shapes.has_long_axis.Given as goal

abbrev pub invariant-loop-length : goal.invariant-loop-length
invariant-loop-length l = has_long_axis l.fn.lengths ≡ has_long_axis (drop l.length-index l.lengths)
