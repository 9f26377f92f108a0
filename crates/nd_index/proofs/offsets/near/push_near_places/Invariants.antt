use Rattle.std.proofs.Common.{◌≡◌, ◌++◌, map, take}
use Rattle.std.specs.Prelude.{◌+ℤ◌}
use Rattle.nd_places.specs.Near.{place_on}
use Rattle.nd_index.proofs.offsets.near.push_near_places.Given as goal

abbrev pub invariant-loop-way : goal.invariant-loop-way
invariant-loop-way l = l.places.items ≡ l.initial.places.items ++ map (λ z. place_on (l.start +ℤ z)) (take l.way-index l.ways)
