use Rattle.std.proofs.Common.{◌≡◌, ◌+◌, ◌*◌, ◌≤◌, ◌^◌, ◌++◌, length, take, drop}
use Rattle.std.specs.List.{All, concat, flat_map}
use Rattle.nd_element.specs.Elements.{canonical_structure}
use Rattle.nd_convert.proofs.conversion.structures.copy_view.Given as goal

abbrev pub invariant-loop-run : goal.invariant-loop-run
invariant-loop-run l = record {
  len : length l.out ≡ length l.fn.out;
  room : l.at + length (concat l.runs) * l.structure.1 ≡ length l.out;
  ends : All (λ p. p + l.structure.1 ≤ 2 ^ 64) (concat l.runs);
  rest : drop l.at l.out ≡ drop l.at l.fn.out;
  done : take l.at l.out ++ flat_map (canonical_structure l.structure l.bytes) (concat l.runs)
      ≡ flat_map (canonical_structure l.structure l.bytes) l.view.places;
}

abbrev pub decreases-loop-run : goal.decreases-loop-run
decreases-loop-run l = length l.runs
