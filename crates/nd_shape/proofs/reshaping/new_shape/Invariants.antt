use Rattle.std.proofs.Common.{◌≡◌, ◌++◌, true, drop}
use Rattle.std.specs.List.{list_all}
use Rattle.nd_model.specs.Indexing.Reshaping.{is_length, lengths_with}
use Rattle.nd_shape.proofs.reshaping.new_shape.Given as goal

abbrev pub invariant-loop-length : goal.invariant-loop-length
invariant-loop-length l = record {
  inside : list_all is_length (drop l.length-index l.lengths) ≡ true;
  shape : l.shape.items ++ lengths_with l.left (drop l.length-index l.lengths) ≡ lengths_with l.left l.lengths;
}
