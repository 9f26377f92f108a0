use Rattle.std.proofs.Common.{◌≡◌, ◌∙◌, ◌*◌, ◌/◌, ◌&&◌, nat_lt, length, ap, arith}
use Rattle.nd_marks.proofs.Chosen.{is_chosen, word_longer, only_inside}
use Rattle.nd_marks.proofs.trues.word_of_trues.Goals as goal

pub loop-at-preserved : goal.loop-at-preserved
loop-at-preserved c = λ i lt. word_longer c.args.mask.now c.args.size c.loop-at.at c.loop-at.word c.chosen_bits-word.result i (c.loop-at.invariant i lt) (c.chosen_bits-word.ensures i lt)

pub returns : goal.returns
returns c = λ i lt.
    let all : c.loop-at.at ≡ length c.args.mask.now = omega arith in
    c.loop-at.invariant i lt ∙ ap (λ n. nat_lt i (n * c.args.size) && is_chosen c.args.mask.now (i / c.args.size)) all
    ∙ only_inside c.args.mask.now c.args.size i c.requires.size
