use Rattle.std.proofs.Common.{◌≡◌, ℕ, ◌/◌, ◌%◌, ◌<◌, ◌≤◌, true}
use Rattle.nd_marks.specs.Marks.{in_word}
use Rattle.nd_marks.proofs.strip.Span.granules.Given as goal

abbrev pub invariant-loop-granule : goal.invariant-loop-granule
invariant-loop-granule l = (g : ℕ) → l.fn.self.from / 64 ≤ g → g < l.granule → in_word l.word (g % 64) ≡ true
