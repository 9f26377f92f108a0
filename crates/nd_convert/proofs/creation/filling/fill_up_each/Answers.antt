use Rattle.std.proofs.Common.{◌≡◌, ◌*◌, refl, sym, ap, ap₂, ◌∙◌, arith, ℤ, to_z, of_z, rules}
use Rattle.std.specs.Int.{int_wrap, w128}
use mir.Facts.{to_z-of_z}
use Rattle.nd_model.specs.Arrays.Element.{with_bytes}
use Rattle.nd_model.proofs.LowestBits.{same_bytes}
use Rattle.nd_convert.proofs.creation.InOrder.{apart, apart-zero, fill_all, fill_more, next_apart}
use Rattle.nd_convert.specs.Creation.Numbers.{bytes_below}
use Rattle.nd_convert.proofs.creation.filling.fill_up_each.Goals as goal

pub loop-index-init : goal.loop-index-init
loop-index-init c = record { long = refl; bytes = search rules; next = ap (int_wrap w128) (sym (apart-zero (to_z w128 (of_z w128 c.args.start)) (to_z w128 (of_z w128 c.args.step)))) }

pub loop-index-preserved : goal.loop-index-preserved
loop-index-preserved c =
    let k = c.loop-index.index in
    let start : ℤ = to_z w128 (of_z w128 c.args.start) in
    let step : ℤ = to_z w128 (of_z w128 c.args.step) in
    let number : ℤ = to_z w128 c.loop-index.number-bits in
    let f = apart start step in record {
      long = c.store_at.ensures.len ∙ c.loop-index.invariant.long;
      bytes = fill_more c.args.elem f k c.size-size.result c.args.bytes.now c.loop-index.bytes c.store_at.new.bytes c.size-size.ensures.value c.loop-index.invariant.bytes
          (c.store_at.ensures.bytes ∙ ap (λ l. with_bytes c.loop-index.bytes (k * c.size-size.result) l) (same_bytes c.args.elem number (f k) c.loop-index.invariant.next));
      next = next_apart start step number (to_z w128 (of_z w128 c.next_number-number.result)) k c.loop-index.invariant.next (to_z-of_z {w = w128} (search rules) ∙ c.next_number-number.ensures);
    }

pub returns : goal.returns
returns c =
    let start : ℤ = to_z w128 (of_z w128 c.args.start) in
    let step : ℤ = to_z w128 (of_z w128 c.args.step) in
    let end : c.loop-index.index ≡ c.args.n = omega (arith, c.loop-index-test.false, c.loop-index.auto.index-end) in
    fill_all c.args.elem (apart start step) c.loop-index.index c.args.n c.size-size.result c.args.bytes.now c.loop-index.bytes end c.size-size.ensures.value c.requires.0 c.loop-index.invariant.bytes
    ∙ ap₂ (λ a b. bytes_below c.args.elem (apart a b) c.args.n) (to_z-of_z c.ranges.start) (to_z-of_z c.ranges.step)
