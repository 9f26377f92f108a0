use Rattle.std.proofs.Common.{◌≡◌, ap, ◌∙◌, arith}
use Rattle.nd_marks.specs.Marks.{Grid, in_row}
use Rattle.nd_marks.proofs.Grids.{row_row, row_strip}
use Rattle.nd_marks.proofs.grid.Grid.repeat_row.Goals as goal

pub returns-then-step-width : goal.returns-then-step-width
returns-then-step-width c = λ p. let g = c.args.self.now in
    c.of.ensures.places p
    ∙ row_strip g c.in_ok-strip.strip c.args.count c.args.step p c.requires.one.0 c.requires.one.1
    (c.in_ok-strip.ensures ∙ ap (λ (g : Grid). record g.strip { step = c.args.step; count = c.args.count }) c.self.view_is)

pub returns : goal.returns
returns c = λ p. let g = c.args.self.now in
    let first : c.first.result ≡ g.strip.first = c.first.ensures ∙ ap (λ (g : Grid). g.strip.first) c.self.view_is in
    let width : c.width.result ≡ g.strip.width = c.width.ensures ∙ ap (λ (g : Grid). g.strip.width) c.self.view_is in
    let also : c.width-2.result ≡ g.strip.width = c.width-2.ensures ∙ ap (λ (g : Grid). g.strip.width) c.self.view_is in
    c.of-2.ensures.places p ∙ c.range.ensures.places p ∙ ap (λ f. in_row f c.in_ok-width.width p) first
    ∙ row_row g c.args.count c.args.step c.in_ok-width.width p c.requires.one.0 c.requires.one.1 c.requires.some (omega (arith, c.if-step-width.false, width)) (omega (arith, c.in_ok-width.ensures, c.in_ok-behind.ensures, also))
