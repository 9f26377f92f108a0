use Rattle.std.proofs.Common.{rules, sym, ap, ◌∙◌, FitsSigned}
use Rattle.std.specs.Int.{w128}
use Rattle.std.specs.List.{list_any}
use mir.Facts.{to_z-of_z}
use Rattle.nd_model.specs.Making.Operators.{is_negative}
use Rattle.nd_ufunc.specs.Elementwise.Stretched.{stretched_numbers}
use Rattle.nd_ufunc.proofs.elementwise.Any.{any_alike}
use Rattle.nd_ufunc.proofs.elementwise.powers.is_any_negative.Goals as goal

pub returns-then-count-gt0 : goal.returns-then-count-gt0
returns-then-count-gt0 c =
    let n = c.args.count in
    let fits : FitsSigned w128 c.in-Number.number = search rules in
    c.is_negative.ensures ∙ ap is_negative (to_z-of_z fits) ∙ sym (any_alike is_negative c.in-Number.number n c.if-count-gt0.true)
    ∙ ap (λ s. list_any is_negative (stretched_numbers s n)) (sym c.in-Number.is)
