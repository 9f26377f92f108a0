use Rattle.std.proofs.Common.{◌≡◌, ◌*◌, ap, ap₂, ◌∙◌, arith}
use Rattle.std.proofs.lemmas.Option.{IfSome_then}
use Rattle.nd_marks.specs.Marks.{Grid}
use Rattle.nd_marks.proofs.Grids.{lines_lines}
use Rattle.nd_marks.proofs.grid.Grid.repeat_lines.Goals as goal

pub returns : goal.returns
returns c = let g = c.args.self.now in
    let lines : c.self.inside.lines ≡ g.lines = ap (λ (g : Grid). g.lines) c.self.view_is in
    let jump : c.self.inside.jump ≡ g.jump = ap (λ (g : Grid). g.jump) c.self.view_is in
    let strip : c.self.inside.strip ≡ g.strip = ap (λ (g : Grid). g.strip) c.self.view_is in
    let product : c.self.inside.lines * c.self.inside.jump ≡ g.lines * g.jump = ap₂ (λ a b. a * b) lines jump in
    let many : c.args.count * c.self.inside.lines ≡ c.args.count * g.lines = ap (λ n. c.args.count * n) lines in
    IfSome_then c.of_lines.result c.of_lines.ensures (λ h is p.
    lines_lines g h c.args.count c.args.step c.in_ok-lines.lines p (omega (arith, product, c.in_ok-checked_mul.ensures, c.if-branch-step.false)) (omega (arith, many, c.in_ok-lines.ensures))
    (is ∙ (λ i. record { strip = strip i; jump = jump i; lines = c.in_ok-lines.lines })))
