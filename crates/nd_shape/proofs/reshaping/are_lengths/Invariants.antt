use Rattle.std.proofs.Common.{◌≡◌, drop}
use Rattle.std.specs.List.{list_all}
use Rattle.nd_model.specs.Indexing.Reshaping.{is_length}
use Rattle.nd_shape.proofs.reshaping.are_lengths.Given as goal

abbrev pub invariant-loop-length : goal.invariant-loop-length
invariant-loop-length l = list_all is_length l.lengths ≡ list_all is_length (drop l.length-index l.lengths)
