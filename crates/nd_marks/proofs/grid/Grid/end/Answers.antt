use Rattle.std.proofs.Common.{◌≡◌, ℕ, ◌<◌, ◌≤◌, ◌+◌, ◌*◌, ◌-◌, ap, subst, ◌∙◌, arith}
use Rattle.std.proofs.Math.Nat.{mul-le-mul_right}
use Rattle.nd_marks.specs.Marks.{Grid, Strip, moved}
use Rattle.nd_marks.proofs.Grids.{no_line, no_row}
use Rattle.nd_marks.proofs.grid.Grid.end.Goals as goal

pub returns-clause-past : goal.returns-clause-past
returns-clause-past c = λ p le.
    let g = c.args.self.now in
    let last : c.line.result ≡ moved g.strip ((g.lines - 1) * g.jump) = c.line.ensures ∙ ap (λ (g' : Grid). moved g.strip ((g'.lines - 1) * g.jump)) c.self.view_is in
    no_line g.strip g.jump g.lines p (λ k line. no_row (g.strip.first + k * g.jump) g.strip.width g.strip.step g.strip.count p (λ n row.
    let end : g.strip.first + (g.lines - 1) * g.jump + n * g.strip.step + g.strip.width ≤ c.end.result = subst (λ (s : Strip). (n : ℕ) → n < s.count → s.first + n * s.step + s.width ≤ c.end.result) last c.end.ensures.rows n row in
    let up : k * g.jump ≤ (g.lines - 1) * g.jump = mul-le-mul_right g.jump (omega arith) in
    omega (arith, le, end, up)))

pub returns-clause-value : goal.returns-clause-value
returns-clause-value c = let g = c.args.self.now in
    let last : c.line.result ≡ moved g.strip ((g.lines - 1) * g.jump) = c.line.ensures ∙ ap (λ (g' : Grid). moved g.strip ((g'.lines - 1) * g.jump)) c.self.view_is in
    c.end.ensures.value ∙ ap (λ (s : Strip). s.first + (s.count * s.step - (s.step - s.width))) last
