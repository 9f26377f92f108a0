use Rattle.std.proofs.Common.{◌≡◌, ◌++◌, map, take}
use Rattle.std.specs.Prelude.{◌+ℤ◌}
use Rattle.std.specs.List.{All}
use Rattle.nd_index.specs.Offsets.RowPlaces.{way_on}
use Rattle.nd_places.specs.Near.{IsNear}
use Rattle.nd_index.proofs.advanced.by_rows.push_starts.Given as goal

abbrev pub invariant-loop-number : goal.invariant-loop-number
invariant-loop-number l = record {
  near : All IsNear l.starts.items;
  done : l.starts.items ≡ l.initial.starts.items ++ map (λ k. l.start +ℤ way_on l.axes k) (take l.number-index l.numbers);
}
