use Rattle.std.proofs.Common.{◌≡◌, ◌*◌, ◌++◌, length}
use Rattle.std.specs.List.{flat_map}
use Rattle.nd_model.specs.Arrays.Element.{size_of}
use Rattle.nd_model.specs.Arrays.View.{One}
use Rattle.nd_element.specs.Elements.{canonical_at}
use Rattle.nd_scatter.proofs.gathering.read_many.Given as goal

abbrev pub invariant-loop-part : goal.invariant-loop-part
invariant-loop-part l = record {
  many : length l.some ≡ 512;
  room : l.out.1 ≡ length l.walk * size_of l.elem.kind;
  written : l.out.0 ++ flat_map (canonical_at (One l.elem) l.bytes) l.walk ≡ flat_map (canonical_at (One l.elem) l.bytes) l.places;
}

abbrev pub decreases-loop-part : goal.decreases-loop-part
decreases-loop-part l = length l.walk
