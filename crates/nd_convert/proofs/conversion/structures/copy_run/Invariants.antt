use Rattle.std.proofs.Common.{◌≡◌, ◌*◌, length, take, drop}
use Rattle.std.specs.List.{flat_map}
use Rattle.nd_element.specs.Elements.{canonical_structure}
use Rattle.nd_convert.proofs.conversion.structures.copy_run.Given as goal

abbrev pub invariant-loop-index : goal.invariant-loop-index
invariant-loop-index l = record {
  len : length l.out ≡ length l.fn.out;
  rest : drop (l.index * l.structure.1) l.out ≡ drop (l.index * l.structure.1) l.fn.out;
  done : take (l.index * l.structure.1) l.out ≡ flat_map (canonical_structure l.structure l.bytes) (take l.index l.run);
}
