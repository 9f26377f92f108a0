use Rattle.std.proofs.Common.{◌≡◌, ℕ, ◌*◌, ◌/◌, ◌<◌, ◌&&◌, nat_lt}
use Rattle.nd_marks.specs.Marks.{in_word}
use Rattle.nd_marks.proofs.Chosen.{is_chosen}
use Rattle.nd_marks.proofs.trues.word_of_trues.Given as goal

abbrev pub invariant-loop-at : goal.invariant-loop-at
invariant-loop-at l = (i : ℕ) → i < 64 → in_word l.word i ≡ (nat_lt i (l.at * l.size) && is_chosen l.mask (i / l.size))
