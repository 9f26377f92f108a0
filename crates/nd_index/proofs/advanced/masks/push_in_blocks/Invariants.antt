use Rattle.std.proofs.Common.{◌≡◌, ◌^◌, ◌≤◌, ◌++◌, take}
use Rattle.std.specs.Prelude.{unsigned_abs}
use Rattle.nd_index.specs.Offsets.RowPlaces.{IsFront, chosen_places}
use Rattle.nd_index.proofs.advanced.masks.push_in_blocks.Given as goal

abbrev pub invariant-loop-number : goal.invariant-loop-number
invariant-loop-number l = record {
  low : l.front.0 ≤ 2 ^ 32;
  near : unsigned_abs l.front.1.0 ≤ 2 ^ 112;
  front : IsFront l.axes l.block.count l.front.0 l.front.1.0;
  done : l.places.items ≡ l.initial.places.items ++ chosen_places l.row l.axes (take l.number-index l.numbers);
}
