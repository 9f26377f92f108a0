use Rattle.std.proofs.Common.{◌≡◌, ℕ, true, slice_index}
use Rattle.nd_marks.specs.Marks.{in_lines}
use Rattle.nd_marks.proofs.bytes.is_same_grid.Given as goal

abbrev pub invariant-loop-number : goal.invariant-loop-number
invariant-loop-number l = (p : ℕ) → in_lines l.grid.strip l.grid.jump l.number p ≡ true → slice_index l.a p ≡ slice_index l.b p
