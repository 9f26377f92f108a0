use Rattle.std.proofs.Common.{◌∙◌, ◌*◌, ◌%◌, ◌^◌, ℕ, ap}
use Rattle.nd_marks.specs.Marks.{in_word}
use Rattle.nd_marks.proofs.Bits.{ones_up}
use Rattle.nd_marks.proofs.words.first_part.Goals as goal

pub returns : goal.returns
returns c = λ i lt. ap (λ (n : ℕ). in_word (n * 2 ^ c.args.start % 2 ^ 64) i) c.ones.ensures ∙ ones_up c.args.start c.args.size i lt
