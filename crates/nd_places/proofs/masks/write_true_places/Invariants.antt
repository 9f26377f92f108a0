use Rattle.std.proofs.Common.{◌≡◌, ◌+◌, ◌≤◌, ◌++◌, length, map, take, drop}
use Rattle.nd_places.specs.Near.{place_on_line, trues_in}
use Rattle.nd_places.proofs.masks.write_true_places.Given as goal

abbrev pub invariant-loop-index : goal.invariant-loop-index
invariant-loop-index l = record {
  room : length l.out ≡ length l.initial.out;
  few : l.count ≤ l.index;
  done : take l.count l.out ++ map (place_on_line l.line.start l.line.step) (trues_in (l.first + l.index) (drop l.index l.mask))
      ≡ map (place_on_line l.line.start l.line.step) (trues_in l.first l.mask);
}
