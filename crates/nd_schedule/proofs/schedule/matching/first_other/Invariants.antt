use Rattle.std.proofs.Common.{◌≡◌, take}
use Rattle.nd_schedule.specs.Cells.Source.{cells_of}
use Rattle.nd_schedule.proofs.schedule.matching.first_other.Given as goal

abbrev pub invariant-loop-k : goal.invariant-loop-k
invariant-loop-k l = take l.k (cells_of l.cells) ≡ take l.k (cells_of l.drafted)
