use Rattle.std.proofs.Common.{◌≡◌, ℕ, length}
use Rattle.nd_marks.specs.Marks.{page_at, pages_of}
use Rattle.nd_marks.proofs.pages.extend_pages.Given as goal

abbrev pub invariant-loop : goal.invariant-loop
invariant-loop l = record {
  same : (k : ℕ) → page_at (pages_of l.pages.items) k ≡ page_at (pages_of l.fn.pages.items) k;
  long : length l.pages.items ≡ l.counter;
}
