use Rattle.std.proofs.Common.{◌≡◌, ◌+◌, ◌*◌, ◌≤◌, ◌++◌, length, map, take, drop}
use Rattle.std.specs.List.{flat_map}
use Rattle.nd_model.specs.Arrays.View.{One}
use Rattle.nd_element.specs.Elements.{canonical_at}
use Rattle.nd_places.specs.Near.{place_on_line, trues_in}
use Rattle.nd_scatter.proofs.masked.keep_trues.Given as goal

abbrev pub invariant-loop-index : goal.invariant-loop-index
invariant-loop-index l = record {
  len : length l.out ≡ length l.fn.out;
  few : l.kept ≤ l.index * l.size;
  done : take l.kept l.out ++ flat_map (canonical_at (One l.fn.elem) l.bytes) (map (place_on_line l.line.start l.line.step) (trues_in (l.first + l.index) (drop l.index l.mask)))
      ≡ flat_map (canonical_at (One l.fn.elem) l.bytes) (map (place_on_line l.line.start l.line.step) (trues_in l.first l.mask));
}
