use Rattle.std.proofs.Common.{◌≡◌, ap, ◌∙◌, arith}
use Rattle.nd_marks.specs.Marks.{Grid}
use Rattle.nd_marks.proofs.Spans.{in_span}
use Rattle.nd_marks.proofs.grid.Grid.span.Goals as goal

pub returns : goal.returns
returns c = λ p h.
    let found = in_span c.args.self.now c.end.result p c.end.ensures.past h in
    let first : c.first.result ≡ c.args.self.now.strip.first = c.first.ensures ∙ ap (λ (g : Grid). g.strip.first) c.self.view_is in
    (omega (arith, found.0, c.from.ensures, first), found.1)
