use Rattle.std.proofs.Common.{◌≡◌, ◌+◌, ◌/◌, ◌%◌, ◌<◌, ◌≤◌, ◌∙◌, slice_index, ap, sym, inl, inr, arith}
use Rattle.std.proofs.lemmas.Bool.{cases_lt}
use Rattle.nd_marks.specs.Marks.{page_at, pages_of, word_at}
use Rattle.nd_marks.proofs.Paging.{past_page}
use Rattle.nd_marks.proofs.pages.next_index.Goals as goal

pub returns-then-next-min-clause-none : goal.returns-then-next-min-clause-none
returns-then-next-min-clause-none c = λ q more to.
    let ps = pages_of c.args.pages.now in
    let ws = c.page_of-words.result.now in
    let here : q / 512 ≡ c.args.at / 512 = omega (arith, more, to) in
    let word : word_at ps q ≡ slice_index ws (q % 512) = ap (λ k. slice_index (page_at ps k) (q % 512)) here ∙ ap (λ v. slice_index v (q % 512)) (sym c.page_of-words.ensures) in
    let behind : c.args.at % 512 + 1 ≤ q % 512 = omega (arith, more, here) in
    word ∙ elim (cases_lt (q % 512) c.skip_empty-next.result) [
      | inl lt ↦ c.skip_empty-next.ensures.none (q % 512) behind lt
      | inr ge ↦ past_page ws (q % 512) (omega (arith, ge, c.if-next-min.true, c.min.ensures))
    ]

pub returns-clause-none : goal.returns-clause-none
returns-clause-none c = λ q more to.
    let ps = pages_of c.args.pages.now in
    let ws = c.page_of-words.result.now in
    let inside : c.skip_empty-next.result < 512 = omega (arith, c.if-next-min.false, c.min.ensures) in
    let here : q / 512 ≡ c.args.at / 512 = omega (arith, more, to, inside) in
    let word : word_at ps q ≡ slice_index ws (q % 512) = ap (λ k. slice_index (page_at ps k) (q % 512)) here ∙ ap (λ v. slice_index v (q % 512)) (sym c.page_of-words.ensures) in
    let behind : c.args.at % 512 + 1 ≤ q % 512 = omega (arith, more, here) in
    word ∙ c.skip_empty-next.ensures.none (q % 512) behind (omega (arith, to, here))
