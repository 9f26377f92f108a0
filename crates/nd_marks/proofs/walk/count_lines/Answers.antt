use Rattle.std.proofs.Common.{◌≡◌, ◌*◌, min, sym, ap, ap₂, ◌∙◌}
use Rattle.nd_marks.proofs.Walks.{length-lines_left, saturated}
use Rattle.nd_marks.proofs.walk.count_lines.Goals as goal

pub returns : goal.returns
returns c = let g = c.args.grid.now in
    let rows : c.saturating_mul-rows.result ≡ min (g.strip.count * g.strip.width) 18446744073709551615 = c.saturating_mul-rows.ensures ∙ ap (λ n. min n 18446744073709551615) (ap₂ (λ a b. a * b) (c.count.ensures ∙ ap (λ s. s.count) c.strip.ensures) (c.width.ensures ∙ ap (λ s. s.width) c.strip-2.ensures)) in
    c.saturating_mul.ensures ∙ ap₂ (λ a b. min (a * b) 18446744073709551615) c.lines.ensures rows
    ∙ saturated g.lines (g.strip.count * g.strip.width) 18446744073709551615 ∙ ap (λ n. min n 18446744073709551615) (sym (length-lines_left g))
