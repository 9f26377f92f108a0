use Rattle.std.proofs.Common.{◌≡◌, ◌-◌}
use Rattle.nd_marks.specs.Kept.{bits_left}
use Rattle.nd_marks.specs.Marks.{pages_of}
use Rattle.nd_marks.proofs.walk.next_bits.Given as goal

abbrev pub invariant-loop-at : goal.invariant-loop-at
invariant-loop-at l = bits_left (pages_of l.pages) l.at ≡ bits_left (pages_of l.pages) l.fn.at

abbrev pub decreases-loop-at : goal.decreases-loop-at
decreases-loop-at l = l.end - l.at
