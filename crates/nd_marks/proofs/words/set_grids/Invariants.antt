use Rattle.std.proofs.Common.{◌≡◌, ℕ, ◌||◌, take}
use Rattle.nd_marks.specs.Marks.{has_bit, in_grids, pages_of}
use Rattle.nd_marks.proofs.words.set_grids.Given as goal

abbrev pub invariant-loop-grid : goal.invariant-loop-grid
invariant-loop-grid l = (p : ℕ) → has_bit (pages_of l.pages.items) p ≡ (has_bit (pages_of l.fn.pages.items) p || in_grids (take l.grid-index l.grids) p)
