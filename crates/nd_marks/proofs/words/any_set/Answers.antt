use Rattle.std.proofs.Common.{◌≡◌, ◌+◌, ◌-◌, ◌*◌, ◌/◌, ◌<◌, ◌≤◌, ◌∙◌, true, length, subst, sym, ap, inl, inr, arith}
use Rattle.std.proofs.lemmas.Bool.{cases_lt}
use Rattle.std.proofs.lemmas.Bool.Decides.{nat_tests}
use Rattle.nd_marks.specs.Marks.{in_word, pages_of, word_at}
use Rattle.nd_marks.proofs.Paging.{length-pages_of, no_bit, no_word}
use Rattle.nd_marks.proofs.Walks.{bit_of, none_before}
use Rattle.nd_marks.proofs.words.any_set.Goals as goal

pub loop-at-preserved : goal.loop-at-preserved
loop-at-preserved c =
    let ps = pages_of c.args.pages.now in
    let at = c.loop-at.at in
    let next = c.next_index-at.result in
    let set = c.next_set-set.result in
    let last : set.to ≡ 64 = c.next_set-set.ensures.end (omega (arith, c.if-set.false)) in
    let more : at / 64 < next = c.next_index-at.ensures.more in
    record {
      from = omega (arith, c.loop-at.invariant.from, more);
      none = λ p from to. elim (cases_lt p at) [
        | inl lt ↦ c.loop-at.invariant.none p from lt
        | inr ge ↦ none_before ps at next p more (λ i lo hi. ap (λ w. in_word w i) (sym c.word_of.ensures) ∙ c.next_set-set.ensures.unset i lo (omega (arith, hi, last, c.if-set.false))) c.next_index-at.ensures.none ge to
      ];
    }

pub returns-then-set-clause-some : goal.returns-then-set-clause-some
returns-then-set-clause-some c = λ h.
    let ps = pages_of c.args.pages.now in
    let at = c.loop-at.at in
    let set = c.next_set-set.result in
    let low = at / 64 * 64 in
    let order = c.next_set-set.ensures.order in
    let lt : set.from < set.to = c.if-set.true in
    let inside : low + c.from.result < c.min-end.result = grind (arith, nat_tests, h) in
    let less : set.from < 64 = omega (arith, lt, order.1.1.0) in
    let from : c.args.from ≤ low + set.from = omega (arith, c.loop-at.invariant.from, order.0) in
    let to : low + set.from < c.args.to = omega (arith, inside, c.from.ensures, c.min-end.ensures) in
    let back : set.from ≡ low + set.from - low = omega arith in
    let is : in_word (word_at ps (at / 64)) set.from ≡ true = ap (λ w. in_word w set.from) (sym c.word_of.ensures) ∙ c.next_set-set.ensures.set set.from (omega arith) lt in
    (low + set.from, from, to, bit_of ps at (low + set.from) true (omega arith) (omega arith) (subst (λ i. in_word (word_at ps (at / 64)) i ≡ true) back is))

pub returns-clause-none : goal.returns-clause-none
returns-clause-none c = λ h p from to.
    let ps = pages_of c.args.pages.now in
    elim (cases_lt p c.loop-at.at) [
      | inl lt ↦ c.loop-at.invariant.none p from lt
      | inr ge ↦ let past : length ps ≤ p / 64 / 512 = omega (arith, ge, to, c.loop-at-test.false, c.min-end.ensures, length-pages_of c.args.pages.now) in no_bit ps p (no_word ps (p / 64) past)
    ]
