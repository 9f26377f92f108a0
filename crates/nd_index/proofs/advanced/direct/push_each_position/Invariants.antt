use Rattle.std.proofs.Common.{◌≡◌, ◌++◌, take}
use Rattle.std.specs.List.{flat_map}
use Rattle.nd_index.proofs.advanced.SoleArrays.{placed_at}
use Rattle.nd_index.proofs.advanced.direct.push_each_position.Given as goal

abbrev pub invariant-loop-at : goal.invariant-loop-at
invariant-loop-at l = l.places.items ≡ l.initial.places.items ++ flat_map (placed_at l.row l.axes l.elem l.bytes l.size) (take l.at l.run)
