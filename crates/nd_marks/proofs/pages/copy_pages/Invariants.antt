use Rattle.std.proofs.Common.{◌≡◌, take}
use Rattle.nd_marks.specs.Marks.{pages_of}
use Rattle.nd_marks.proofs.pages.copy_pages.Given as goal

abbrev pub invariant-loop-words : goal.invariant-loop-words
invariant-loop-words l = pages_of l.copy.items ≡ pages_of (take l.words-index l.pages)
