use Rattle.std.proofs.Common.{◌≡◌, map, take}
use Rattle.nd_model.specs.Arrays.Content.{Num}
use Rattle.nd_model.specs.Making.Creation.{converted_numbers}
use Rattle.nd_types.specs.Kinds.{kind_of}
use Rattle.nd_operation.specs.Operators.Listing.{numbers_in}
use Rattle.nd_operation.proofs.operators.lists.convert_all.Given as goal

abbrev pub invariant-loop-value : goal.invariant-loop-value
invariant-loop-value l = map Num l.numbers.items ≡ converted_numbers (kind_of l.kind) (numbers_in (take l.value-index l.values))
