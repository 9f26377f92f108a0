use Rattle.std.proofs.Common.{take}
use Rattle.std.specs.List.{All}
use Rattle.nd_places.specs.Near.{IsNear}
use Rattle.nd_index.proofs.offsets.near.are_near.Given as goal

abbrev pub invariant-loop-way : goal.invariant-loop-way
invariant-loop-way l = All IsNear (take l.way-index l.ways)
