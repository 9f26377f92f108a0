use Rattle.std.proofs.Common.{◌≡◌, false, take}
use Rattle.nd_model.specs.Book.Book.{is_label}
use Rattle.nd_schedule.specs.Cells.Source.{cells_of}
use Rattle.nd_schedule.proofs.schedule.matching.find_label.Given as goal

abbrev pub invariant-loop-k : goal.invariant-loop-k
invariant-loop-k l = is_label l.label (cells_of (take l.k l.cells)) ≡ false
