use Rattle.std.proofs.Common.{◌≡◌, ℕ, ◌||◌}
use Rattle.nd_marks.specs.Marks.{has_bit, in_rows, pages_of}
use Rattle.nd_marks.proofs.words.set_strip.Given as goal

abbrev pub invariant-loop-number : goal.invariant-loop-number
invariant-loop-number l = (p : ℕ) → has_bit (pages_of l.pages.items) p ≡ (has_bit (pages_of l.fn.pages.items) p || in_rows l.strip.first l.strip.width l.strip.step l.number p)
