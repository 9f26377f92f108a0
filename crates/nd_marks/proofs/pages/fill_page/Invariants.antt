use Rattle.std.proofs.Common.{◌≡◌, ℕ, length, slice_index}
use Rattle.nd_marks.proofs.pages.fill_page.Given as goal

abbrev pub invariant-loop : goal.invariant-loop
invariant-loop l = record {
  same : (q : ℕ) → slice_index l.words.items q ≡ slice_index l.fn.words.items q;
  long : length l.words.items ≡ l.counter;
}
