use Rattle.std.proofs.Common.{◌≡◌, ℕ, ◌≤◌, ◌||◌, length}
use Rattle.nd_marks.specs.Marks.{has_bit, pages_of}
use Rattle.nd_marks.proofs.pages.add_pages.Given as goal

abbrev pub invariant-loop-words : goal.invariant-loop-words
invariant-loop-words l = record {
  room : length l.more.items ≤ length l.pages.items;
  bits : (p : ℕ) → (has_bit (pages_of l.pages.items) p || has_bit (pages_of l.more.items) p) ≡ (has_bit (pages_of l.fn.pages.items) p || has_bit (pages_of l.fn.more.items) p);
}

abbrev pub decreases-loop-words : goal.decreases-loop-words
decreases-loop-words l = length l.more.items
