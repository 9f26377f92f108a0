use Rattle.std.proofs.Common.{◌∙◌, ◌-◌, ◌/◌, ◌^◌, ℕ, ap}
use Rattle.nd_marks.specs.Marks.{in_word}
use Rattle.nd_marks.proofs.Bits.{ones_down}
use Rattle.nd_marks.proofs.words.second_part.Goals as goal

pub returns : goal.returns
returns c = λ i. ap (λ (n : ℕ). in_word (n / 2 ^ (64 - c.args.start)) i) c.ones.ensures ∙ ones_down c.args.start c.args.size i c.requires.0
