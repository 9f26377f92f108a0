use Rattle.std.proofs.Common.{◌≡◌, ℕ, ◌+◌, ◌-◌, ◌*◌, ◌≤◌, ◌||◌, ◌&&◌, nat_lt, length}
use Rattle.nd_marks.specs.Marks.{has_bit, in_trues, pages_of}
use Rattle.nd_marks.proofs.trues.set_line.Given as goal

abbrev pub invariant-loop-at : goal.invariant-loop-at
invariant-loop-at l = record {
  inside : l.at ≤ length l.mask;
  bits : (p : ℕ) → has_bit (pages_of l.pages.items) p ≡ (has_bit (pages_of l.initial.pages.items) p || (nat_lt p (l.start + l.at * l.size) && in_trues l.start l.size l.mask p));
}

abbrev pub decreases-loop-at : goal.decreases-loop-at
decreases-loop-at l = length l.initial.mask - l.at
