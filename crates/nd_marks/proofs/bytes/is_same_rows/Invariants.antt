use Rattle.std.proofs.Common.{◌≡◌, ℕ, true, slice_index}
use Rattle.nd_marks.specs.Marks.{in_rows}
use Rattle.nd_marks.proofs.bytes.is_same_rows.Given as goal

abbrev pub invariant-loop-number : goal.invariant-loop-number
invariant-loop-number l = (p : ℕ) → in_rows l.strip.first l.strip.width l.strip.step l.number p ≡ true → slice_index l.a p ≡ slice_index l.b p
