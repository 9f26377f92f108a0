use Rattle.std.proofs.Common.{◌≡◌, sym, ap, ◌∙◌, arith}
use Rattle.nd_marks.specs.Marks.{Grid}
use Rattle.std.proofs.lemmas.Bool.Decides.{nat_tests}
use Rattle.nd_marks.proofs.Grids.{no_line_rows}
use Rattle.nd_marks.proofs.grid.Grid.is_empty.Goals as goal

pub returns : goal.returns
returns c = λ h p. no_line_rows c.args.self.now p (sym (ap (λ (g : Grid). g.strip.count) c.self.view_is) ∙ (let e : c.self.inside.strip.count ≡ 0 = grind (arith, nat_tests, h) in e))
