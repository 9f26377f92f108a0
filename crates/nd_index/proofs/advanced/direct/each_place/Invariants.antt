use Rattle.std.proofs.Common.{◌≡◌, map, take}
use Rattle.std.specs.Prelude.{pos, ◌+ℤ◌}
use Rattle.std.specs.List.{flat_map}
use Rattle.nd_index.specs.Offsets.RowPlaces.{way_on}
use Rattle.nd_index.specs.Advanced.IndexNumbers.{numbers_in}
use Rattle.nd_places.specs.Near.{place_on}
use Rattle.nd_index.proofs.advanced.direct.each_place.Given as goal

abbrev pub invariant-loop-way : goal.invariant-loop-way
invariant-loop-way l =
    l.places.items ≡ flat_map (λ b. flat_map (λ k. map (λ z. place_on (((pos l.kept.offset +ℤ b) +ℤ way_on l.axes k) +ℤ z)) l.kept.behind.now) (numbers_in l.numbers)) (take l.way-index l.kept.before.now)
