use Rattle.std.proofs.Common.{◌≡◌, map, take}
use Rattle.std.specs.Prelude.{pos, ◌+ℤ◌}
use Rattle.std.specs.List.{flat_map}
use Rattle.nd_places.specs.Near.{place_on}
use Rattle.nd_index.proofs.offsets.placing.places_on.Given as goal

abbrev pub invariant-loop-way : goal.invariant-loop-way
invariant-loop-way l =
    l.places.items ≡ flat_map (λ b. flat_map (λ a. map (λ z. place_on (((pos l.offset +ℤ b) +ℤ a) +ℤ z)) l.behind) l.arrays) (take l.way-index l.before)
