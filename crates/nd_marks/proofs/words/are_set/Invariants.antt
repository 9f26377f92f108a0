use Rattle.std.proofs.Common.{◌≡◌, ℕ, ◌-◌, ◌<◌, ◌≤◌, true}
use Rattle.nd_marks.specs.Marks.{has_bit, pages_of}
use Rattle.nd_marks.proofs.words.are_set.Given as goal

abbrev pub invariant-loop-at : goal.invariant-loop-at
invariant-loop-at l = (p : ℕ) → l.from ≤ p → p < l.at → has_bit (pages_of l.pages) p ≡ true

abbrev pub decreases-loop-at : goal.decreases-loop-at
decreases-loop-at l = l.to - l.at
