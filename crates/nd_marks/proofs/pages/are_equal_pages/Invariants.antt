use Rattle.std.proofs.Common.{◌≡◌, take}
use Rattle.nd_marks.specs.Marks.{pages_of}
use Rattle.nd_marks.proofs.pages.are_equal_pages.Given as goal

abbrev pub invariant-loop-at : goal.invariant-loop-at
invariant-loop-at l = pages_of (take l.at l.pages) ≡ pages_of (take l.at l.others)
