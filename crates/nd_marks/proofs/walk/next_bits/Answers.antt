use Rattle.std.proofs.Common.{◌≡◌, ℕ, ◌+◌, ◌-◌, ◌*◌, ◌/◌, ◌++◌, [], sym, ap, ap₂, ◌∙◌, arith}
use Rattle.nd_model.specs.Arrays.Tuple.{count_up}
use Rattle.nd_marks.specs.Kept.{bits_left}
use Rattle.nd_marks.specs.Marks.{in_page, page_at, pages_of}
use Rattle.nd_marks.proofs.Counted.{page_found}
use Rattle.nd_marks.proofs.Paging.{length-pages_of}
use Rattle.nd_marks.proofs.Walks.{bits_none}
use Rattle.nd_marks.proofs.walk.next_bits.Goals as goal

pub returns-then-set : goal.returns-then-set
returns-then-set c = let ps = pages_of c.args.pages.now in let at = c.loop-at.at in let set = c.next_in_page-set.result in let order = c.next_in_page-set.ensures.order in
    let page : (i : ℕ) → in_page (page_at ps (at / 32768)) i ≡ in_page c.page_of.result.now i = λ i. ap (λ ws. in_page ws i) (sym c.page_of.ensures) in
    record {
      split = sym c.loop-at.invariant
          ∙ page_found ps at set.from set.to (omega (arith, c.loop-at-test.true, length-pages_of c.args.pages.now)) order.0 order.1.0 order.1.1
          (λ i lo hi. page i ∙ c.next_in_page-set.ensures.unset i lo hi) (λ i lo hi. page i ∙ c.next_in_page-set.ensures.set i lo hi)
          ∙ ap₂ (λ f t. count_up (at / 32768 * 32768 + f) (set.to - set.from) ++ bits_left ps (at / 32768 * 32768 + t)) (sym c.from-then-set.ensures) (sym c.from.ensures);
      some = omega (arith, c.if-set.true);
      near = grind (arith, order, c.loop-at-test.true);
    }

pub loop-at-preserved : goal.loop-at-preserved
loop-at-preserved c = let ps = pages_of c.args.pages.now in let at = c.loop-at.at in let order = c.next_in_page-set.ensures.order in
    let last : c.next_in_page-set.result.to ≡ 32768 = c.next_in_page-set.ensures.end (omega (arith, c.if-set.false)) in
    let page : (i : ℕ) → in_page (page_at ps (at / 32768)) i ≡ in_page c.page_of.result.now i = λ i. ap (λ ws. in_page ws i) (sym c.page_of.ensures) in
    sym (page_found ps at 32768 32768 (omega (arith, c.loop-at-test.true, length-pages_of c.args.pages.now)) (omega (arith, order)) (omega arith) (omega arith)
    (λ i lo hi. page i ∙ c.next_in_page-set.ensures.unset i lo (omega (arith, hi, last, c.if-set.false))) (λ i lo hi. absurd (omega (arith, lo, hi))))
    ∙ c.loop-at.invariant

pub returns : goal.returns
returns c = let ps = pages_of c.args.pages.now in
    let none : bits_left ps c.loop-at.at ≡ [] = bits_none ps c.loop-at.at (omega (arith, c.loop-at-test.false, length-pages_of c.args.pages.now)) in
    (sym c.loop-at.invariant ∙ none, none)
