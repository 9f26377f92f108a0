use Rattle.std.proofs.Common.{◌≡◌, ℕ, ◌+◌, ◌-◌, ◌<◌, ◌≤◌, false}
use Rattle.nd_marks.specs.Marks.{in_page}
use Rattle.nd_marks.proofs.walk.next_in_page.Given as goal

abbrev pub invariant-loop-at : goal.invariant-loop-at
invariant-loop-at l = record {
  more : l.bit ≤ l.at;
  near : l.at < 32768 + 64;
  unset : (i : ℕ) → l.bit ≤ i → i < l.at → in_page l.words i ≡ false;
}

abbrev pub decreases-loop-at : goal.decreases-loop-at
decreases-loop-at l = 65536 - l.at
