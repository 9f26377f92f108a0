use Rattle.std.proofs.Common.{◌≡◌, ◌∙◌, arith}
use mir.Facts.{to_z-of_z}
use Rattle.nd_convert.proofs.creation.InOrder.{fill_more, fill_all}
use Rattle.nd_convert.proofs.creation.filling.fill_each.Goals as goal

pub loop-index-preserved : goal.loop-index-preserved
loop-index-preserved c =
    let so_far = simp (to_z-of_z, c.ranges.number) at c.loop-index.invariant.1 in
    let stored = simp (to_z-of_z, c.ranges.number) at c.store_at.ensures.bytes in (
      c.store_at.ensures.len ∙ c.loop-index.invariant.0,
      simp (to_z-of_z, c.ranges.number)
          (fill_more c.args.elem (λ k. c.args.number) c.loop-index.index c.size-size.result c.args.bytes.now c.loop-index.bytes c.store_at.new.bytes
          c.size-size.ensures.value so_far stored),
    )

pub returns : goal.returns
returns c =
    let so_far = simp (to_z-of_z, c.ranges.number) at c.loop-index.invariant.1 in
    let end : c.loop-index.index ≡ c.args.n = omega (arith, c.loop-index-test.false, c.loop-index.auto.index-end) in
    fill_all c.args.elem (λ k. c.args.number) c.loop-index.index c.args.n c.size-size.result c.args.bytes.now c.loop-index.bytes end c.size-size.ensures.value c.requires.0 so_far
