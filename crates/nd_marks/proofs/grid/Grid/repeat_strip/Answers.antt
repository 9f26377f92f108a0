use Rattle.std.proofs.Common.{◌≡◌, ℕ, ◌*◌, ap, ap₂, ◌∙◌, arith}
use Rattle.std.proofs.lemmas.Option.{IfSome_then}
use Rattle.nd_marks.specs.Marks.{Grid}
use Rattle.nd_marks.proofs.Grids.{strip_lines, strip_strip}
use Rattle.nd_marks.proofs.grid.Grid.repeat_strip.Goals as goal

pub returns-then-branch-step : goal.returns-then-branch-step
returns-then-branch-step c = let g = c.args.self.now in
    IfSome_then c.of_lines.result c.of_lines.ensures (λ h is p.
    strip_lines g h c.args.count c.args.step p c.requires.one (is ∙ ap (λ (g : Grid). record { strip = g.strip; jump = c.args.step; lines = c.args.count }) c.self.view_is))

pub returns : goal.returns
returns c = λ p. let g = c.args.self.now in
    let rows : c.count-rows.result ≡ g.strip.count = c.count-rows.ensures ∙ ap (λ (g : Grid). g.strip.count) c.self.view_is in
    let step : c.step.result ≡ g.strip.step = c.step.ensures ∙ ap (λ (g : Grid). g.strip.step) c.self.view_is in
    let also : c.step-2.result ≡ g.strip.step = c.step-2.ensures ∙ ap (λ (g : Grid). g.strip.step) c.self.view_is in
    let far : c.count-rows.result * c.step.result ≡ g.strip.count * g.strip.step = ap₂ (λ a b. a * b) rows step in
    let many : c.args.count * c.count-rows.result ≡ c.args.count * g.strip.count = ap (λ n. c.args.count * n) rows in
    c.of.ensures.places p
    ∙ strip_strip g c.in_ok-strip.strip c.args.count c.args.step c.in_ok-all.all p c.requires.one
    (omega (arith, far, c.in_ok-checked_mul.ensures, c.if-branch-step.false)) (omega (arith, many, c.in_ok-all.ensures))
    (c.in_ok-strip.ensures ∙ ap₂ (λ (g : Grid) (n : ℕ). record g.strip { step = n; count = c.in_ok-all.all }) c.self.view_is also)
