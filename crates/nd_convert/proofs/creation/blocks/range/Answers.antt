use Rattle.std.proofs.Common.{ℤ, to_z, of_z, [], ◌∷◌, sym, refl, ap₂, ◌∙◌}
use Rattle.std.specs.Int.{w128}
use mir.Facts.{to_z-of_z}
use Rattle.nd_model.specs.Arrays.Tuple.{first_index}
use Rattle.nd_model.specs.Arrays.View.{One}
use Rattle.nd_model.specs.Arrays.Content.{Num, array_bytes}
use Rattle.nd_model.proofs.Contents.{axis_bytes}
use Rattle.nd_convert.proofs.creation.InOrder.{apart, written}
use Rattle.nd_convert.proofs.creation.blocks.range.Goals as goal

pub returns : goal.returns
returns c =
    let start : ℤ = to_z w128 (of_z w128 c.args.start) in
    let step : ℤ = to_z w128 (of_z w128 c.args.step) in
    let f = apart start step in
    written c.args.elem f c.args.n c.size.result c.in_ok-block.block c.fill_up.new.bytes c.size.ensures.value c.in_ok-block.ensures c.fill_up.ensures
    ∙ sym (axis_bytes c.args.elem c.args.n f (λ t. f (first_index t)) (λ k. refl))
    ∙ ap₂ (λ a b. array_bytes (One c.args.elem) (c.args.n ∷ []) (λ t. Num (apart a b (first_index t)))) (to_z-of_z c.ranges.start) (to_z-of_z c.ranges.step)
