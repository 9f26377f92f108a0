use Rattle.std.proofs.Common.{◌≡◌, ℕ, ◌+◌, ◌-◌, ◌*◌, ◌/◌, ◌%◌, ◌<◌, ◌≤◌, ◌&&◌, nat_lt, true, false, refl, sym, ap, ap₂, subst, ◌∙◌, arith}
use Rattle.std.proofs.Math.Nat.{mod-lt}
use Rattle.std.proofs.lemmas.Bool.Decides.{nat_tests}
use Rattle.nd_marks.specs.Marks.{Grid, IsGrid, in_strip, moved}
use Rattle.nd_marks.proofs.Grids.{lined, lines_before, quotient_up, same_line}
use Rattle.nd_marks.proofs.grid.Grid.stretch.Goals as goal

pub returns-then-place-first-clause-alike : goal.returns-then-place-first-clause-alike
returns-then-place-first-clause-alike c = λ p from to.
    let g = c.args.self.now in
    let first : c.first-first.result ≡ g.strip.first = c.first-first.ensures ∙ ap (λ (g : Grid). g.strip.first) c.self.view_is in
    lines_before g.strip g.jump g.lines p (omega (arith, to, c.from.ensures, first))

pub returns-then-number-self-clause-alike : goal.returns-then-number-self-clause-alike
returns-then-number-self-clause-alike c = λ p from to.
    let g = c.args.self.now in
    let is : IsGrid g = subst IsGrid c.self.view_is c.self.invariant in
    let lines : c.self.inside.lines ≡ g.lines = ap (λ (g : Grid). g.lines) c.self.view_is in
    let jump : c.self.inside.jump ≡ g.jump = ap (λ (g : Grid). g.jump) c.self.view_is in
    let apart = is.apart (omega (arith, is.some, c.if-self-eq1.false, lines)) in
    let first : c.first-first.result ≡ g.strip.first = c.first-first.ensures ∙ ap (λ (g : Grid). g.strip.first) c.self.view_is in
    let number : (c.args.place - c.first-first.result) / c.self.inside.jump ≡ (c.args.place - g.strip.first) / g.jump = ap₂ (λ f j. (c.args.place - f) / j) first jump in
    let behind : g.strip.first ≤ p = omega (arith, c.if-place-first.false, first, from) in
    let up : (c.args.place - g.strip.first) / g.jump ≤ (p - g.strip.first) / g.jump = quotient_up (c.args.place - g.strip.first) (p - g.strip.first) g.jump apart.0 (omega arith) in
    let far : g.lines ≤ (p - g.strip.first) / g.jump = omega (arith, up, number, lines, c.if-number-self.true) in
    let none : nat_lt ((p - g.strip.first) / g.jump) g.lines ≡ false = grind (arith, nat_tests) in
    lined g.strip g.jump g.lines (p - g.strip.first) p apart.0 apart.1 is.wide refl behind
    ∙ ap (λ b. b && in_strip (moved g.strip ((p - g.strip.first) / g.jump * g.jump)) p) none

pub returns-clause-alike : goal.returns-clause-alike
returns-clause-alike c = λ p from to.
    let g = c.args.self.now in
    let is : IsGrid g = subst IsGrid c.self.view_is c.self.invariant in
    let lines : c.self.inside.lines ≡ g.lines = ap (λ (g : Grid). g.lines) c.self.view_is in
    let jump : c.self.inside.jump ≡ g.jump = ap (λ (g : Grid). g.jump) c.self.view_is in
    let apart = is.apart (omega (arith, is.some, c.if-self-eq1.false, lines)) in
    let first : c.first-first.result ≡ g.strip.first = c.first-first.ensures ∙ ap (λ (g : Grid). g.strip.first) c.self.view_is in
    let a : ℕ = c.args.place - g.strip.first in
    let number : (c.args.place - c.first-first.result) / c.self.inside.jump ≡ a / g.jump = ap₂ (λ f j. (c.args.place - f) / j) first jump in
    let rest : (c.args.place - c.first-first.result) % c.self.inside.jump ≡ a % g.jump = ap₂ (λ f j. (c.args.place - f) % j) first jump in
    let behind : g.strip.first ≤ c.args.place = omega (arith, c.if-place-first.false, first) in
    let small : a % g.jump < g.jump = mod-lt a apart.0 in
    let end : p < c.args.place + (g.jump - a % g.jump) = omega (arith, to, c.min.ensures, c.from-2.ensures, c.from-3.ensures, rest, jump) in
    let same : (p - g.strip.first) / g.jump ≡ a / g.jump = same_line a (p - g.strip.first) g.jump apart.0 (omega arith) (omega arith) in
    let less : a / g.jump < g.lines = omega (arith, c.if-number-self.false, number, lines) in
    let one : nat_lt (a / g.jump) g.lines ≡ true = grind (arith, nat_tests) in
    let here : c.line.result ≡ moved g.strip (a / g.jump * g.jump) = c.line.ensures ∙ ap (λ k. moved g.strip (k * g.jump)) number in
    lined g.strip g.jump g.lines (p - g.strip.first) p apart.0 apart.1 is.wide refl (omega arith)
    ∙ ap (λ k. nat_lt k g.lines && in_strip (moved g.strip (k * g.jump)) p) same
    ∙ ap (λ b. b && in_strip (moved g.strip (a / g.jump * g.jump)) p) one
    ∙ ap (λ s. in_strip s p) (sym here)
    ∙ c.stretch-stretch.ensures.alike p from (omega (arith, to, c.min.ensures))
