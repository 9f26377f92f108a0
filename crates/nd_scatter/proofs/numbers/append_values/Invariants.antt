use Rattle.std.proofs.Common.{◌≡◌, ◌+◌, ◌*◌, ◌++◌, take}
use Rattle.std.specs.List.{flat_map}
use Rattle.nd_model.specs.Arrays.Element.{size_of}
use Rattle.nd_model.specs.Arrays.View.{One}
use Rattle.nd_element.specs.Elements.{canonical_at}
use Rattle.nd_scatter.proofs.numbers.append_values.Given as goal

abbrev pub invariant-loop-place : goal.invariant-loop-place
invariant-loop-place l = record {
  written : l.out.0 ≡ l.fn.filling.0 ++ flat_map (canonical_at (One l.elem) l.bytes) (take l.place-index l.places);
  room : l.out.1 + l.place-index * size_of l.elem.kind ≡ l.fn.filling.1;
}
