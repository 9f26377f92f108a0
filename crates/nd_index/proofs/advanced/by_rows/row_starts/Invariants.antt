use Rattle.std.proofs.Common.{◌≡◌, map, take}
use Rattle.std.specs.Prelude.{pos, ◌+ℤ◌}
use Rattle.std.specs.List.{All, flat_map}
use Rattle.nd_index.specs.Offsets.RowPlaces.{way_on}
use Rattle.nd_places.specs.Near.{IsNear}
use Rattle.nd_index.proofs.advanced.by_rows.row_starts.Given as goal

abbrev pub invariant-loop-way : goal.invariant-loop-way
invariant-loop-way l = record {
  near : All IsNear l.starts.items;
  done : l.starts.items ≡ flat_map (λ b. map (λ k. (pos l.kept.offset +ℤ b) +ℤ way_on l.axes k) l.numbers) (take l.way-index l.kept.before.now);
}
