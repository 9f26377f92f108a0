use Rattle.std.proofs.Common.{◌≡◌, ◌+◌, ◌-◌, ◌++◌, List, ℕ, length, map, take, drop, refl, sym, ap, ◌∙◌, arith}
use Rattle.std.specs.List.{concat}
use Rattle.std.proofs.lemmas.List.{length-take}
use Rattle.nd_model.specs.Indexing.Advanced.{is_nonzero}
use Rattle.nd_model.specs.Arrays.Element.{Boolean}
use Rattle.nd_model.specs.Making.Elementwise.{little}
use Rattle.nd_element.specs.Elements.{numbers_at}
use Rattle.nd_index.proofs.items.MaskBytes.{packed_trues}
use Rattle.nd_places.specs.Near.{is_true}
use Rattle.nd_index.proofs.advanced.Forms.{whole_run}
use Rattle.nd_index.proofs.advanced.by_mask.mask_bytes.Goals as goal

pub returns : goal.returns
returns c =
    let mask = c.args.mask.now in let bytes = mask.bytes.now in let run : List ℕ = c.in_ok-run.run' in let places = mask.view.now.places in
    let all : places ≡ run ++ concat c.next.new.self = sym c.runs-runs.ensures.places ∙ ap concat c.in_ok-run.ensures in
    let many : length run ≡ length places = omega (arith, c.count.ensures.value, c.count-count.ensures.value, c.if-count.false) in
    let whole : run ≡ places = whole_run run (concat c.next.new.self) places all many in
    let elem : mask.elem.now ≡ little Boolean = c.if-not-is_elem.ensures.0 refl ∙ c.little.ensures in
    let width : c.start-start.result + c.count-2.result - c.start-start.result ≡ length run = omega (arith, c.count-2.ensures.value) in
    let some = c.count.ensures.some in (
      (λ i. map is_nonzero (numbers_at (elem i) bytes (sym whole i))) ∙ packed_trues bytes run (omega (arith, some, c.count.ensures.value)) (c.if-not-is_packed.ensures.0 refl)
          ∙ sym (λ i. map is_true (take (width i) (drop (c.start-start.ensures i) bytes))),
      omega (arith, length-take (c.start-start.result + c.count-2.result - c.start-start.result) (drop c.start-start.result bytes), width, many, c.count-count.ensures.value, c.count-count.ensures.limit),
    )
