use Rattle.std.proofs.Common.{◌≡◌, ℕ, ◌+◌, ◌-◌, ◌*◌, ◌/◌, ◌%◌, ◌<◌, ◌≤◌, max, refl, sym, ap, subst, ◌∙◌, inl, inr, arith}
use Rattle.std.proofs.Math.Nat.{mod-lt}
use Rattle.std.proofs.lemmas.Bool.{cases_lt}
use Rattle.std.proofs.lemmas.Nat.{div-add-mod'}
use Rattle.nd_marks.specs.Marks.{Grid, IsGrid, in_strip, moved}
use Rattle.nd_marks.proofs.Grids.{line_in, lines_before, none_between, quotient_up}
use Rattle.nd_marks.proofs.grid.Grid.meets.Goals as goal

pub returns-then-number-from-clause-none : goal.returns-then-number-from-clause-none
returns-then-number-from-clause-none c = λ _ p lo hi.
    let g = c.args.self.now in
    let is : IsGrid g = subst IsGrid c.self.view_is c.self.invariant in
    let lines : c.self.inside.lines ≡ g.lines = ap (λ (g : Grid). g.lines) c.self.view_is in
    let jump : c.self.inside.jump ≡ g.jump = ap (λ (g : Grid). g.jump) c.self.view_is in
    let apart = is.apart (omega (arith, is.some, c.if-self-eq1.false, lines)) in
    let first : c.first.result ≡ g.strip.first = c.first.ensures ∙ ap (λ (g : Grid). g.strip.first) c.self.view_is in
    let start : c.from-first.result ≡ g.strip.first = c.from-first.ensures ∙ first in
    let most : c.max.result ≡ max c.args.from g.strip.first = c.max.ensures ∙ ap (max c.args.from) start in
    let b : ℕ = max c.args.from g.strip.first - g.strip.first in
    let k : ℕ = b / g.jump in
    let number : (c.max.result - c.from-first.result) / c.from.result ≡ k = (λ i. (most i - start i) / ((c.from.ensures ∙ jump) i)) in
    let whole : b / g.jump * g.jump + b % g.jump ≡ b = div-add-mod' b g.jump in
    let less : b % g.jump < g.jump = mod-lt b apart.0 in
    let more : (k + 1) * g.jump ≡ k * g.jump + g.jump = omega arith in
    let far : g.lines ≤ k = omega (arith, c.if-number-from.true, number, lines, c.from-2.ensures) in
    elim (cases_lt p g.strip.first) [
      | inl lt ↦ lines_before g.strip g.jump g.lines p lt
      | inr ge ↦ none_between g.strip g.jump g.lines k (p - g.strip.first) p c.args.from c.args.to apart.0 apart.1 is.wide ge refl lo hi (omega arith) (quotient_up b (p - g.strip.first) g.jump apart.0 (omega arith))
          (λ lt. absurd (omega (arith, lt, far))) (λ lt. absurd (omega (arith, lt, far)))
    ]

pub returns-then-meets-clause-some : goal.returns-then-meets-clause-some
returns-then-meets-clause-some c = λ _.
    let g = c.args.self.now in
    let is : IsGrid g = subst IsGrid c.self.view_is c.self.invariant in
    let lines : c.self.inside.lines ≡ g.lines = ap (λ (g : Grid). g.lines) c.self.view_is in
    let jump : c.self.inside.jump ≡ g.jump = ap (λ (g : Grid). g.jump) c.self.view_is in
    let apart = is.apart (omega (arith, is.some, c.if-self-eq1.false, lines)) in
    let first : c.first.result ≡ g.strip.first = c.first.ensures ∙ ap (λ (g : Grid). g.strip.first) c.self.view_is in
    let start : c.from-first.result ≡ g.strip.first = c.from-first.ensures ∙ first in
    let most : c.max.result ≡ max c.args.from g.strip.first = c.max.ensures ∙ ap (max c.args.from) start in
    let b : ℕ = max c.args.from g.strip.first - g.strip.first in
    let k : ℕ = b / g.jump in
    let number : (c.max.result - c.from-first.result) / c.from.result ≡ k = (λ i. (most i - start i) / ((c.from.ensures ∙ jump) i)) in
    let whole : b / g.jump * g.jump + b % g.jump ≡ b = div-add-mod' b g.jump in
    let less : b % g.jump < g.jump = mod-lt b apart.0 in
    let more : (k + 1) * g.jump ≡ k * g.jump + g.jump = omega arith in
    let found = c.if-meets.ensures.some refl in
    let here : c.line.result ≡ moved g.strip (k * g.jump) = c.line.ensures ∙ ap (λ k. moved g.strip (k * g.jump)) number in
    (found.0, found.1, found.2, line_in g.strip g.jump g.lines k found.0 (omega (arith, c.if-number-from.false, number, lines, c.from-2.ensures)) (sym (ap (λ s. in_strip s found.0) here) ∙ found.3))

pub returns-then-next-self-clause-none : goal.returns-then-next-self-clause-none
returns-then-next-self-clause-none c = λ none p lo hi.
    let g = c.args.self.now in
    let is : IsGrid g = subst IsGrid c.self.view_is c.self.invariant in
    let lines : c.self.inside.lines ≡ g.lines = ap (λ (g : Grid). g.lines) c.self.view_is in
    let jump : c.self.inside.jump ≡ g.jump = ap (λ (g : Grid). g.jump) c.self.view_is in
    let apart = is.apart (omega (arith, is.some, c.if-self-eq1.false, lines)) in
    let first : c.first.result ≡ g.strip.first = c.first.ensures ∙ ap (λ (g : Grid). g.strip.first) c.self.view_is in
    let start : c.from-first.result ≡ g.strip.first = c.from-first.ensures ∙ first in
    let most : c.max.result ≡ max c.args.from g.strip.first = c.max.ensures ∙ ap (max c.args.from) start in
    let b : ℕ = max c.args.from g.strip.first - g.strip.first in
    let k : ℕ = b / g.jump in
    let number : (c.max.result - c.from-first.result) / c.from.result ≡ k = (λ i. (most i - start i) / ((c.from.ensures ∙ jump) i)) in
    let whole : b / g.jump * g.jump + b % g.jump ≡ b = div-add-mod' b g.jump in
    let less : b % g.jump < g.jump = mod-lt b apart.0 in
    let more : (k + 1) * g.jump ≡ k * g.jump + g.jump = omega arith in
    let here : c.line.result ≡ moved g.strip (k * g.jump) = c.line.ensures ∙ ap (λ k. moved g.strip (k * g.jump)) number in
    let next : c.line-then-next-self.result ≡ moved g.strip ((k + 1) * g.jump) = c.line-then-next-self.ensures ∙ ap (λ k. moved g.strip ((k + 1) * g.jump)) number in
    elim (cases_lt p g.strip.first) [
      | inl lt ↦ lines_before g.strip g.jump g.lines p lt
      | inr ge ↦ none_between g.strip g.jump g.lines k (p - g.strip.first) p c.args.from c.args.to apart.0 apart.1 is.wide ge refl lo hi (omega arith) (quotient_up b (p - g.strip.first) g.jump apart.0 (omega arith))
          (λ lt q from to. sym (ap (λ s. in_strip s q) here) ∙ c.if-meets.ensures.none refl q from to) (λ lt q from to. sym (ap (λ s. in_strip s q) next) ∙ c.meets-then-next-self.ensures.none none q from to)
    ]

pub returns-then-next-self-clause-some : goal.returns-then-next-self-clause-some
returns-then-next-self-clause-some c = λ yes.
    let g = c.args.self.now in
    let is : IsGrid g = subst IsGrid c.self.view_is c.self.invariant in
    let lines : c.self.inside.lines ≡ g.lines = ap (λ (g : Grid). g.lines) c.self.view_is in
    let jump : c.self.inside.jump ≡ g.jump = ap (λ (g : Grid). g.jump) c.self.view_is in
    let apart = is.apart (omega (arith, is.some, c.if-self-eq1.false, lines)) in
    let first : c.first.result ≡ g.strip.first = c.first.ensures ∙ ap (λ (g : Grid). g.strip.first) c.self.view_is in
    let start : c.from-first.result ≡ g.strip.first = c.from-first.ensures ∙ first in
    let most : c.max.result ≡ max c.args.from g.strip.first = c.max.ensures ∙ ap (max c.args.from) start in
    let b : ℕ = max c.args.from g.strip.first - g.strip.first in
    let k : ℕ = b / g.jump in
    let number : (c.max.result - c.from-first.result) / c.from.result ≡ k = (λ i. (most i - start i) / ((c.from.ensures ∙ jump) i)) in
    let whole : b / g.jump * g.jump + b % g.jump ≡ b = div-add-mod' b g.jump in
    let less : b % g.jump < g.jump = mod-lt b apart.0 in
    let more : (k + 1) * g.jump ≡ k * g.jump + g.jump = omega arith in
    let found = c.meets-then-next-self.ensures.some yes in
    let next : c.line-then-next-self.result ≡ moved g.strip ((k + 1) * g.jump) = c.line-then-next-self.ensures ∙ ap (λ k. moved g.strip ((k + 1) * g.jump)) number in
    (found.0, found.1, found.2, line_in g.strip g.jump g.lines (k + 1) found.0 (omega (arith, c.if-next-self.true, number, lines)) (sym (ap (λ s. in_strip s found.0) next) ∙ found.3))

pub returns-else-next-self-clause-none : goal.returns-else-next-self-clause-none
returns-else-next-self-clause-none c = λ _ p lo hi.
    let g = c.args.self.now in
    let is : IsGrid g = subst IsGrid c.self.view_is c.self.invariant in
    let lines : c.self.inside.lines ≡ g.lines = ap (λ (g : Grid). g.lines) c.self.view_is in
    let jump : c.self.inside.jump ≡ g.jump = ap (λ (g : Grid). g.jump) c.self.view_is in
    let apart = is.apart (omega (arith, is.some, c.if-self-eq1.false, lines)) in
    let first : c.first.result ≡ g.strip.first = c.first.ensures ∙ ap (λ (g : Grid). g.strip.first) c.self.view_is in
    let start : c.from-first.result ≡ g.strip.first = c.from-first.ensures ∙ first in
    let most : c.max.result ≡ max c.args.from g.strip.first = c.max.ensures ∙ ap (max c.args.from) start in
    let b : ℕ = max c.args.from g.strip.first - g.strip.first in
    let k : ℕ = b / g.jump in
    let number : (c.max.result - c.from-first.result) / c.from.result ≡ k = (λ i. (most i - start i) / ((c.from.ensures ∙ jump) i)) in
    let whole : b / g.jump * g.jump + b % g.jump ≡ b = div-add-mod' b g.jump in
    let less : b % g.jump < g.jump = mod-lt b apart.0 in
    let more : (k + 1) * g.jump ≡ k * g.jump + g.jump = omega arith in
    let here : c.line.result ≡ moved g.strip (k * g.jump) = c.line.ensures ∙ ap (λ k. moved g.strip (k * g.jump)) number in
    let last : g.lines ≤ k + 1 = omega (arith, c.if-next-self.false, number, lines) in
    elim (cases_lt p g.strip.first) [
      | inl lt ↦ lines_before g.strip g.jump g.lines p lt
      | inr ge ↦ none_between g.strip g.jump g.lines k (p - g.strip.first) p c.args.from c.args.to apart.0 apart.1 is.wide ge refl lo hi (omega arith) (quotient_up b (p - g.strip.first) g.jump apart.0 (omega arith))
          (λ lt q from to. sym (ap (λ s. in_strip s q) here) ∙ c.if-meets.ensures.none refl q from to) (λ lt. absurd (omega (arith, lt, last)))
    ]
