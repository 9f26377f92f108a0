use Rattle.std.proofs.Common.{◌≡◌, take}
use Rattle.std.specs.List.{All}
use Rattle.nd_places.specs.Near.{IsNear}
use Rattle.nd_index.proofs.advanced.by_rows.near_ways.Given as goal

abbrev pub invariant-loop-way : goal.invariant-loop-way
invariant-loop-way l = record {
  same : l.near.items ≡ take l.way-index l.ways;
  near : All IsNear l.near.items;
}
