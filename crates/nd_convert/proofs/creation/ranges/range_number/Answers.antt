use Rattle.std.proofs.Common.{FitsSigned, pos, ◌+ℤ◌, ◌*ℤ◌, ap, ap₂, ◌∙◌, rules}
use Rattle.std.specs.Int.{int_wrap, w128}
use mir.Facts.{to_z-of_z}
use Rattle.std.proofs.lemmas.Int.{int_wrap-add_right}
use Rattle.nd_convert.proofs.creation.ranges.range_number.Goals as goal

pub returns : goal.returns
returns c =
    let r = c.args.range in
    let start : FitsSigned w128 r.start = search rules in
    let step : FitsSigned w128 r.step = search rules in
    to_z-of_z {w = w128} (search rules) ∙ c.next_number.ensures
    ∙ ap₂ (λ a b. int_wrap w128 (a +ℤ b)) (to_z-of_z start) (to_z-of_z {w = w128} (search rules) ∙ c.way_to.ensures ∙ ap (λ s. int_wrap w128 (pos c.args.place *ℤ s)) (to_z-of_z step))
    ∙ int_wrap-add_right w128 r.start (pos c.args.place *ℤ r.step)
