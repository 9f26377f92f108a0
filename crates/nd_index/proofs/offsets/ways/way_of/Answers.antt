use Rattle.std.proofs.Common.{◌≡◌, length, get_or, sym, ap, ◌∙◌, arith, rules}
use Rattle.std.specs.Int.{w128}
use Rattle.std.specs.Int.RustNames.{FitsSigned}
use Rattle.std.specs.Prelude.{pos, ◌*ℤ◌}
use Rattle.std.proofs.lemmas.Int.{to_z-of_z}
use Rattle.nd_index.proofs.offsets.Numbers.{way_alone}
use Rattle.nd_index.proofs.offsets.ways.way_of.Goals as goal

pub returns-then-strides-eq1 : goal.returns-then-strides-eq1
returns-then-strides-eq1 c =
    let strides = c.args.strides.now in
    let one : length strides ≡ 1 = omega (arith, c.if-strides-eq1.true) in
    let fits : FitsSigned w128 (get_or strides 0 (pos 0)) = search rules in
    let held : FitsSigned w128 c.scale.result = search rules in
    to_z-of_z w128 c.scale.result held ∙ c.scale.ensures.value ∙ ap (λ z. pos c.args.number *ℤ z) (to_z-of_z w128 (get_or strides 0 (pos 0)) fits) ∙ sym (way_alone c.args.lengths.now strides c.args.number (sym c.requires.axes) one)
