use Rattle.std.proofs.Common.{◌≡◌, ◌+◌, ◌*◌, ◌^◌, ◌≤◌, true, min, drop}
use Rattle.std.specs.List.{list_all}
use Rattle.nd_model.specs.Indexing.Reshaping.{is_length, known_elements}
use Rattle.nd_shape.proofs.reshaping.known_elements.Given as goal

abbrev pub invariant-loop-length : goal.invariant-loop-length
invariant-loop-length l = record {
  inside : list_all is_length (drop l.length-index l.lengths) ≡ true;
  value : min (l.count * known_elements (drop l.length-index l.lengths)) (2 ^ 24 + 1) ≡ min (known_elements l.lengths) (2 ^ 24 + 1);
  range : l.count ≤ 2 ^ 24 + 1;
}
