use Rattle.std.proofs.Common.{◌≡◌, ◌++◌, length}
use Rattle.nd_places.proofs.list.PlaceList.lend.Given as goal

abbrev pub invariant-loop-part : goal.invariant-loop-part
invariant-loop-part l = record {
  many : length l.some ≡ 512;
  done : l.room.items ++ l.walk ≡ l.self;
}

abbrev pub decreases-loop-part : goal.decreases-loop-part
decreases-loop-part l = length l.walk
