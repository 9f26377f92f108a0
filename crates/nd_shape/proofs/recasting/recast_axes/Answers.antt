use Rattle.std.proofs.Common.{◌≡◌, ◌-◌, ◌<◌, ◌++◌, [], ◌∷◌, pos, length, take, sym, ap, ◌∙◌, arith, rules}
use Rattle.std.specs.Int.{w128}
use Rattle.std.specs.Int.RustNames.{FitsSigned}
use Rattle.std.proofs.lemmas.Int.{to_z-of_z}
use Rattle.nd_shape.proofs.Recasts.{with_last_is, with_last_step_is}
use Rattle.nd_shape.proofs.recasting.recast_axes.Goals as goal

pub returns-clause-lengths : goal.returns-clause-lengths
returns-clause-lengths c =
    let shape = c.args.shape.now in
    let end : c.loop-axis.axis ≡ length shape - 1 = omega arith in
    c.in_ok-push-2.ensures.lengths ∙ ap (λ l. l ++ c.args.last ∷ []) (c.loop-axis.invariant.lengths ∙ ap (λ n. take n shape) end) ∙ sym (with_last_is shape c.args.last c.requires.some)

pub returns-clause-strides : goal.returns-clause-strides
returns-clause-strides c =
    let strides = c.args.strides.now in
    let some : 0 < length strides = omega (arith, c.requires.some, c.requires.each) in
    let end : c.loop-axis.axis ≡ length strides - 1 = omega (arith, c.requires.each) in
    let fits : FitsSigned w128 c.from.result = search rules in
    c.in_ok-push-2.ensures.strides ∙ (λ i. c.loop-axis.layout.strides.items ++ (to_z-of_z w128 c.from.result fits ∙ c.from.ensures) i ∷ [])
    ∙ ap (λ l. l ++ pos c.args.size ∷ []) (c.loop-axis.invariant.strides ∙ ap (λ n. take n strides) end) ∙ sym (with_last_step_is strides (pos c.args.size) some)
