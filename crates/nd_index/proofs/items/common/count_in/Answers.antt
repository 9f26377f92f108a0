use Rattle.std.proofs.Common.{◌≡◌, ◌+◌, ◌-◌, length, take, drop, refl, sym, ap, ◌∙◌, arith}
use Rattle.nd_model.specs.Indexing.Advanced.{true_numbers}
use Rattle.nd_model.specs.Arrays.Element.{Boolean}
use Rattle.nd_model.specs.Making.Elementwise.{little}
use Rattle.nd_places.specs.Near.{trues_in}
use Rattle.nd_index.specs.Items.Counts.{true_count}
use Rattle.nd_index.proofs.items.MaskBytes.{packed_trues}
use Rattle.nd_index.proofs.items.common.count_in.Goals as goal

pub returns-then-is_packed : goal.returns-then-is_packed
returns-then-is_packed c =
    let bytes = c.args.bytes.now in let run = c.args.run.now in
    let width : c.start-start.result + c.count.result - c.start-start.result ≡ length run = omega (arith, c.count.ensures.value) in
    let elem : c.args.elem ≡ little Boolean = c.if-is_elem.ensures.0 refl ∙ c.little.ensures in
    c.count_trues.ensures.value
    ∙ (λ i. length (trues_in 0 (take (width i) (drop (c.start-start.ensures i) bytes))))
    ∙ ap (λ bs. length (true_numbers 0 bs)) (sym (packed_trues bytes run (omega (arith, c.count.ensures.value, c.count.ensures.some)) (c.if-is_packed.ensures.0 refl)))
    ∙ ap (λ e. true_count e bytes run) (sym elem)
