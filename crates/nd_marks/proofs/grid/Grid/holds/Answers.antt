use Rattle.std.proofs.Common.{◌≡◌, ℕ, ◌-◌, ◌*◌, ◌/◌, ◌<◌, ◌&&◌, nat_lt, true, false, refl, sym, ap, ap₂, subst, ◌∙◌, arith}
use Rattle.std.proofs.lemmas.Bool.Decides.{nat_tests}
use Rattle.nd_marks.specs.Marks.{Grid, IsGrid, in_strip, moved}
use Rattle.nd_marks.proofs.Grids.{lined, lines_before}
use Rattle.nd_marks.proofs.grid.Grid.holds.Goals as goal

pub returns-then-place-first : goal.returns-then-place-first
returns-then-place-first c =
    let g = c.args.self.now in
    let first : c.first.result ≡ g.strip.first = c.first.ensures ∙ ap (λ (g : Grid). g.strip.first) c.self.view_is in
    sym (lines_before g.strip g.jump g.lines c.args.place (omega (arith, c.if-place-first.true, first)))

pub returns-then-number-self : goal.returns-then-number-self
returns-then-number-self c =
    let g = c.args.self.now in
    let is : IsGrid g = subst IsGrid c.self.view_is c.self.invariant in
    let lines : c.self.inside.lines ≡ g.lines = ap (λ (g : Grid). g.lines) c.self.view_is in
    let jump : c.self.inside.jump ≡ g.jump = ap (λ (g : Grid). g.jump) c.self.view_is in
    let apart = is.apart (omega (arith, is.some, c.if-self-eq1.false, lines)) in
    let first : c.first-2.result ≡ g.strip.first = c.first-2.ensures ∙ ap (λ (g : Grid). g.strip.first) c.self.view_is in
    let same : c.first.result ≡ g.strip.first = c.first.ensures ∙ ap (λ (g : Grid). g.strip.first) c.self.view_is in
    let a : ℕ = c.args.place - g.strip.first in
    let number : (c.args.place - c.first-2.result) / c.self.inside.jump ≡ a / g.jump = ap₂ (λ f j. (c.args.place - f) / j) first jump in
    let less : a / g.jump < g.lines = omega (arith, c.if-number-self.true, number, lines) in
    let one : nat_lt (a / g.jump) g.lines ≡ true = grind (arith, nat_tests) in
    c.holds-then-number-self.ensures
    ∙ ap (λ s. in_strip s c.args.place) (c.line.ensures ∙ ap (λ k. moved g.strip (k * g.jump)) number)
    ∙ sym (lined g.strip g.jump g.lines a c.args.place apart.0 apart.1 is.wide refl (omega (arith, c.if-place-first.false, same)) ∙ ap (λ b. b && in_strip (moved g.strip (a / g.jump * g.jump)) c.args.place) one)

pub returns-else-number-self : goal.returns-else-number-self
returns-else-number-self c =
    let g = c.args.self.now in
    let is : IsGrid g = subst IsGrid c.self.view_is c.self.invariant in
    let lines : c.self.inside.lines ≡ g.lines = ap (λ (g : Grid). g.lines) c.self.view_is in
    let jump : c.self.inside.jump ≡ g.jump = ap (λ (g : Grid). g.jump) c.self.view_is in
    let apart = is.apart (omega (arith, is.some, c.if-self-eq1.false, lines)) in
    let first : c.first-2.result ≡ g.strip.first = c.first-2.ensures ∙ ap (λ (g : Grid). g.strip.first) c.self.view_is in
    let same : c.first.result ≡ g.strip.first = c.first.ensures ∙ ap (λ (g : Grid). g.strip.first) c.self.view_is in
    let a : ℕ = c.args.place - g.strip.first in
    let number : (c.args.place - c.first-2.result) / c.self.inside.jump ≡ a / g.jump = ap₂ (λ f j. (c.args.place - f) / j) first jump in
    let none : nat_lt ((c.args.place - c.first-2.result) / c.self.inside.jump) c.self.inside.lines ≡ false = grind (arith, nat_tests, c.if-number-self.false) in
    let same_test : nat_lt ((c.args.place - c.first-2.result) / c.self.inside.jump) c.self.inside.lines ≡ nat_lt (a / g.jump) g.lines = ap₂ nat_lt number lines in
    none ∙ sym (lined g.strip g.jump g.lines a c.args.place apart.0 apart.1 is.wide refl (omega (arith, c.if-place-first.false, same))
    ∙ ap (λ b. b && in_strip (moved g.strip (a / g.jump * g.jump)) c.args.place) (sym same_test ∙ none))
