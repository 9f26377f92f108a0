use Rattle.std.proofs.Common.{◌≡◌, ◌∙◌, ◌+◌, ◌-◌, ◌*◌, ◌/◌, ◌%◌, ◌<◌, ◌||◌, ◌&&◌, nat_eq, take, drop, ap, arith}
use Rattle.nd_marks.specs.Marks.{has_bit, pages_of}
use Rattle.nd_marks.proofs.Chosen.{is_chosen, run_chosen, word_chosen}
use Rattle.nd_marks.proofs.trues.set_next.Goals as goal

pub returns-then-mask-at-clause-bits : goal.returns-then-mask-at-clause-bits
returns-then-mask-at-clause-bits c = λ p.
    let old = has_bit (pages_of c.args.pages.now.items) p in
    let place = c.args.start + c.args.at * c.args.size in
    let count : (c.args.at + 64 / c.args.size) - c.args.at ≡ 64 / c.args.size = omega arith in
    let less : p % 64 < 64 = omega arith in
    c.in_ok-add_word.ensures (p / 64) (p % 64)
    ∙ ap (λ b. old || (nat_eq (p / 64) (place / 64) && b)) (c.word_of_trues-word.ensures (p % 64) less)
    ∙ ap (λ n. old || (nat_eq (p / 64) (place / 64) && is_chosen (take n (drop c.args.at c.args.mask.now)) (p % 64 / c.args.size))) count
    ∙ ap (λ t. old || t) (word_chosen c.args.mask.now c.args.start c.args.size c.args.at (64 / c.args.size) p c.requires.size.0 c.if-place-eq0.true c.if-many-size-eq64.true)

pub returns-clause-bits : goal.returns-clause-bits
returns-clause-bits c = λ p. c.in_ok-set_true.ensures p ∙ ap (λ t. has_bit (pages_of c.args.pages.now.items) p || t) (run_chosen c.args.mask.now c.args.start c.args.size c.args.at p)
