use Rattle.std.proofs.Common.{◌≡◌, drop}
use Rattle.nd_model.specs.Making.Creation.{first_misfit}
use Rattle.nd_types.specs.Kinds.{kind_of}
use Rattle.nd_operation.specs.Operators.Listing.{numbers_in}
use Rattle.nd_operation.proofs.operators.lists.first_misfit.Given as goal

abbrev pub invariant-loop-value : goal.invariant-loop-value
invariant-loop-value l = first_misfit (kind_of l.kind) (numbers_in l.fn.values) ≡ first_misfit (kind_of l.kind) (numbers_in (drop l.value-index l.values))
