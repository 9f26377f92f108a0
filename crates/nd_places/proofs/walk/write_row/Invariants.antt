use Rattle.std.proofs.Common.{◌≡◌, length, map, take}
use Rattle.std.specs.Prelude.{◌+ℤ◌}
use Rattle.nd_places.specs.Near.{place_on}
use Rattle.nd_places.proofs.walk.write_row.Given as goal

abbrev pub invariant-loop-index : goal.invariant-loop-index
invariant-loop-index l = record {
  len : length l.out ≡ length l.fn.out;
  done : take l.index l.out ≡ map (λ z. place_on (l.start +ℤ z)) (take l.index l.ways);
}
