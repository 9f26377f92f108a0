use Rattle.std.proofs.Common.{◌≡◌, ◌+◌, ◌*◌, ◌||◌, ◌&&◌, ◌∙◌, nat_le, nat_lt, sym, ap, add-one}
use Rattle.nd_marks.specs.Marks.{has_bit, in_row, in_rows, pages_of}
use Rattle.nd_marks.proofs.Listed.{nothing_excepted}
use Rattle.nd_marks.proofs.Strips.{or_assoc}
use Rattle.nd_marks.proofs.words.set_strip.Goals as goal

pub loop-number-preserved : goal.loop-number-preserved
loop-number-preserved c = λ p.
    let s = c.args.strip.now in
    let n = c.loop-number.number in
    let old = has_bit (pages_of c.args.pages.now.items) p in
    let now = has_bit (pages_of c.loop-number.pages.items) p in
    let first : c.start-from.result ≡ s.first + n * s.step = c.start-from.ensures.value in
    let width : c.from.result ≡ s.width = c.from.ensures ∙ c.width.ensures in
    rw add-one (c.in_ok-set_bits.ensures p
    ∙ nothing_excepted now (nat_le c.start-from.result p && nat_lt p (c.start-from.result + c.from.result)) p
    ∙ (λ i. now || in_row (first i) (width i) p)
    ∙ ap (λ b. b || in_row (s.first + n * s.step) s.width p) (c.loop-number.invariant p)
    ∙ sym (or_assoc old (in_rows s.first s.width s.step n p) (in_row (s.first + n * s.step) s.width p)))
