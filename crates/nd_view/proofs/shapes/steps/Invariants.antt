use Rattle.std.proofs.Common.{◌≡◌, ◌++◌, drop}
use Rattle.nd_view.proofs.Walked.{walked}
use Rattle.nd_view.proofs.shapes.steps.Given as goal

abbrev pub invariant-loop-length : goal.invariant-loop-length
invariant-loop-length l = l.strides.items ++ walked l.step (drop l.length-index l.shape) ≡ walked l.initial.step l.shape
