use Rattle.std.proofs.Common.{◌≡◌, ◌+◌, ◌*◌, ◌/◌, ◌%◌, ◌<◌, ◌∙◌, true, slice_index, sym, ap, subst, inl, inr, arith, refl}
use Rattle.std.proofs.lemmas.Bool.{cases_lt, false≢true}
use Rattle.nd_marks.specs.Marks.{in_word, pages_of, word_at}
use Rattle.nd_marks.proofs.Paging.{bit_within, in_first, length-pages_of}
use Rattle.nd_marks.proofs.bytes.is_same_pages.Goals as goal

pub returns-then-not-is_same_word : goal.returns-then-not-is_same_word
returns-then-not-is_same_word c =
    let ps = pages_of c.args.pages.now in
    let at = c.loop-at.at in (
      λ t. absurd (false≢true t),
      λ all. sym c.if-not-is_same_word.true ∙ c.is_same_word.ensures.1 (λ i lt set.
          let here : (at * 64 + i) / 64 ≡ at = omega (arith, lt) in
          let low : (at * 64 + i) % 64 ≡ i = omega (arith, lt) in
          all (at * 64 + i) (ap (λ k. in_word (word_at ps k) ((at * 64 + i) % 64)) here ∙ ap (in_word (word_at ps at)) low ∙ ap (λ w. in_word w i) (sym c.word_of.ensures) ∙ set)),
    )

pub loop-at-preserved : goal.loop-at-preserved
loop-at-preserved c = λ p to h.
    let ps = pages_of c.args.pages.now in
    let at = c.loop-at.at in
    elim (cases_lt p (at * 64)) [
      | inl lt ↦ c.loop-at.invariant p lt h
      | inr ge ↦
          let here : p / 64 ≡ at = in_first ps at c.next_index-at.result p c.next_index-at.ensures.none ge to h in
          let back : at * 64 + p % 64 ≡ p = omega (arith, here) in
          let less : p % 64 < 64 = omega arith in
          let set : in_word c.word_of.result (p % 64) ≡ true = ap (λ w. in_word w (p % 64)) (c.word_of.ensures ∙ ap (word_at ps) (sym here)) ∙ h in
          subst (λ q. slice_index c.args.a.now q ≡ slice_index c.args.b.now q) back (c.is_same_word.ensures.0 c.if-not-is_same_word.false (p % 64) less set)
    ]

pub returns : goal.returns
returns c =
    let ps = pages_of c.args.pages.now in
    (λ t p h. c.loop-at.invariant p (omega (arith, bit_within ps p h, c.loop-at-test.false, length-pages_of c.args.pages.now)) h, λ all. refl)
