use Rattle.std.proofs.Common.{◌≡◌, pos, to_z, of_z, ap, ◌∙◌, arith, rules}
use Rattle.std.specs.Int.{w128}
use Rattle.std.specs.Int.RustNames.{FitsSigned}
use Rattle.std.specs.Prelude.{ℤ, ◌+ℤ◌, ◌*ℤ◌}
use Rattle.std.proofs.lemmas.Int.{ints, fits_signed_from_abs, to_z-of_z}
use Rattle.nd_index.proofs.basic.layout.shift.Goals as goal

stays : (z : ℤ) → z ≡ z +ℤ pos 0
stays z = omega (arith, ints)

pub overflow_add-result : goal.overflow_add-result
overflow_add-result c = fits_signed_from_abs w128 _ (omega (arith, ints, c.requires.offset, c.scale.ensures.limit))

pub returns-clause-value : goal.returns-clause-value
returns-clause-value c =
    let held : FitsSigned w128 c.from.result = search rules in
    let product : c.scale.result ≡ pos c.args.by *ℤ c.args.stride
    = c.scale.ensures.value ∙ (λ i. (to_z-of_z w128 c.from.result held ∙ c.from.ensures) i *ℤ to_z-of_z w128 c.args.stride c.ranges.stride i) in
    let sum : to_z w128 (of_z w128 (to_z w128 (of_z w128 c.args.offset) +ℤ to_z w128 (of_z w128 c.scale.result))) ≡ c.args.offset +ℤ c.scale.result
    = omega (arith, ints, c.requires.offset, c.scale.ensures.limit) in
    sum ∙ ap (λ z. c.args.offset +ℤ z) (product ∙ stays (pos c.args.by *ℤ c.args.stride))

pub returns-clause-limit : goal.returns-clause-limit
returns-clause-limit c = omega (arith, ints, c.requires.offset, c.scale.ensures.limit)
