use Rattle.std.proofs.Common.{◌≡◌, drop}
use Rattle.std.specs.List.{list_all}
use Rattle.nd_model.specs.Making.Creation.{is_truth}
use Rattle.nd_operation.specs.Operators.Listing.{numbers_in}
use Rattle.nd_operation.proofs.operators.lists.are_truths.Given as goal

abbrev pub invariant-loop-value : goal.invariant-loop-value
invariant-loop-value l = list_all is_truth (numbers_in l.fn.values) ≡ list_all is_truth (numbers_in (drop l.value-index l.values))
