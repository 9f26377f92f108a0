use Rattle.std.proofs.Common.{◌≡◌, ◌*◌, ◌∙◌, ap, length, ℤ, pos, slice_index_or, FitsSigned, arith, refl, rules}
use Rattle.std.specs.Int.{w128}
use mir.Facts.{to_z-of_z}
use Rattle.nd_model.specs.Arrays.Element.{bytes_of, with_bytes}
use Rattle.nd_convert.proofs.creation.InOrder.{fill_more, fill_all}
use Rattle.nd_convert.proofs.creation.NewBytes.{items}
use Rattle.nd_convert.proofs.creation.filling.fill_in_turn.Goals as goal

pub loop-index-preserved : goal.loop-index-preserved
loop-index-preserved c =
    let k = c.loop-index.index in
    let z : ℤ = slice_index_or c.args.numbers.now k (pos 0) in
    let in_range : FitsSigned w128 z = search rules in
    fill_more c.args.elem (λ k. slice_index_or c.args.numbers.now k (pos 0)) k c.size-size.result c.args.bytes.now c.loop-index.bytes c.store_at.new.bytes
    c.size-size.ensures.value c.loop-index.invariant
    (c.store_at.ensures.bytes ∙ ap (λ z. with_bytes c.loop-index.bytes (k * c.size-size.result) (bytes_of c.args.elem z)) (to_z-of_z in_range))

pub returns : goal.returns
returns c =
    let zs = c.args.numbers.now in
    let end : c.loop-index.index ≡ length zs = omega (arith, c.loop-index-test.false, c.loop-index.auto.index-end) in
    fill_all c.args.elem (λ k. slice_index_or zs k (pos 0)) c.loop-index.index (length zs) c.size-size.result c.args.bytes.now c.loop-index.bytes end c.size-size.ensures.value c.requires.size c.loop-index.invariant
    ∙ items c.args.elem zs (length zs) refl
