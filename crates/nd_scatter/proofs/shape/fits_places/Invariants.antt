use Rattle.std.proofs.Common.{◌≡◌, length}
use Rattle.nd_model.specs.Making.Assigning.{value_shape}
use Rattle.nd_scatter.proofs.shape.fits_places.Given as goal

abbrev pub invariant-loop-value : goal.invariant-loop-value
invariant-loop-value l = value_shape l.value l.target ≡ value_shape l.fn.shape l.target

abbrev pub decreases-loop-value : goal.decreases-loop-value
decreases-loop-value l = length l.value
