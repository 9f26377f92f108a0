use Rattle.std.proofs.Common.{◌≡◌, ℕ, ◌≤◌, ◌||◌, ◌&&◌, nat_lt, length, slice_index}
use Rattle.nd_marks.specs.Marks.{in_word}
use Rattle.nd_marks.proofs.pages.add_page.Given as goal

abbrev pub invariant-loop-at : goal.invariant-loop-at
invariant-loop-at l = record {
  room : length l.more.items ≤ length l.words.items;
  bits : (q i : ℕ) → in_word (slice_index l.words.items q) i ≡ (in_word (slice_index l.initial.words.items q) i || (nat_lt q l.at && in_word (slice_index l.more.items q) i));
}
