use Rattle.std.proofs.Common.{rules, ◌≡◌, ◌<◌, to_z, of_z, sym, ap, ◌∙◌, arith}
use Rattle.std.specs.Int.{w128}
use mir.Facts.{to_z-of_z}
use Rattle.nd_ufunc.specs.Loops.Sides.{number_on}
use Rattle.nd_ufunc.specs.declared.loops.kernel.Side.{Side}
use Rattle.nd_ufunc.proofs.loops.SideBySide.{same_counted}
use Rattle.nd_ufunc.proofs.loops.whole.over_row.Goals as goal

pub returns-in-Same-clause-numbers : goal.returns-in-Same-clause-numbers
returns-in-Same-clause-numbers c =
    let a = c.args in
    let own : to_z w128 (of_z w128 c.in-Same.own) ≡ c.in-Same.own = search rules in
    let same : c.in-Same.own ≡ a.number = sym own ∙ ap (to_z w128) c.if-own-number.true ∙ to_z-of_z c.ranges.number in
    same_counted (number_on a.row) (number_on a.side) 0 a.count
    (λ j le lt. let inside : j < a.count = omega (arith, lt) in c.requires.row j inside ∙ sym same ∙ ap (λ (s : Side). number_on s j) (sym c.in-Same.is))
