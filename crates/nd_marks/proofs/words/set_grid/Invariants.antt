use Rattle.std.proofs.Common.{◌≡◌, ℕ, ◌||◌}
use Rattle.nd_marks.specs.Marks.{has_bit, in_lines, pages_of}
use Rattle.nd_marks.proofs.words.set_grid.Given as goal

abbrev pub invariant-loop-number : goal.invariant-loop-number
invariant-loop-number l = (p : ℕ) → has_bit (pages_of l.pages.items) p ≡ (has_bit (pages_of l.fn.pages.items) p || in_lines l.grid.strip l.grid.jump l.number p)
