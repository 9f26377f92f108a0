use Rattle.std.proofs.Common.{◌≡◌, ◌++◌, map, take}
use Rattle.std.specs.Prelude.{◌+ℤ◌}
use Rattle.std.specs.List.{flat_map}
use Rattle.nd_places.specs.Near.{place_on}
use Rattle.nd_index.proofs.offsets.placing.push_rows.Given as goal

abbrev pub invariant-loop-array : goal.invariant-loop-array
invariant-loop-array l = l.places.items ≡ l.initial.places.items ++ flat_map (λ a. map (λ z. place_on ((l.start +ℤ a) +ℤ z)) l.ways) (take l.array-index l.arrays)
