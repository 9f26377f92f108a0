use Rattle.std.proofs.Common.{◌≡◌, ◌/◌, ◌∙◌, ap, sym, inl, inr, arith}
use Rattle.std.proofs.lemmas.Bool.{cases_lt}
use Rattle.nd_marks.specs.Marks.{pages_of, word_at}
use Rattle.nd_marks.proofs.Spans.{full_word}
use Rattle.nd_marks.proofs.words.are_set.Goals as goal

pub loop-at-preserved-then-to-at-ge64 : goal.loop-at-preserved-then-to-at-ge64
loop-at-preserved-then-to-at-ge64 c = λ p from to.
    let ps = pages_of c.args.pages.now in
    let full : word_at ps (c.loop-at.at / 64) ≡ 18446744073709551615 = ap (word_at ps) (sym c.from.ensures) ∙ sym c.word_of.ensures ∙ omega (arith, c.if-word_of.false) in
    elim (cases_lt p c.loop-at.at) [
      | inl lt ↦ c.loop-at.invariant p from lt
      | inr ge ↦ full_word ps c.loop-at.at p (omega (arith, c.if-at-eq0.true)) full ge to
    ]
