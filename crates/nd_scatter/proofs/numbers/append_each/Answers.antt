use Rattle.std.proofs.Common.{◌≡◌, ℕ, List, ◌++◌, ◌+◌, ◌*◌, ◌<◌, length, take, get_or, sym, ap, ◌∙◌, arith, append_assoc}
use Rattle.std.specs.List.{flat_map}
use Rattle.nd_model.specs.Arrays.Element.{size_of}
use Rattle.nd_model.specs.Arrays.View.{One}
use Rattle.nd_element.specs.Elements.{canonical_at}
use Rattle.nd_convert.proofs.conversion.Written.{flat_map_more}
use Rattle.nd_scatter.proofs.numbers.append_each.Goals as goal

pub loop-place-preserved : goal.loop-place-preserved
loop-place-preserved c =
    let a = c.args in let k = c.loop-place.place-index in let ps : List ℕ = a.places.now in let s : ℕ = size_of a.elem.kind in
    let F : ℕ → List ℕ = canonical_at (One a.elem) a.bytes.now in
    let lt : k < length ps = omega (arith, c.loop-place-test.true, c.loop-place.auto.place-index-end) in
    let next : (k + 1) * s ≡ k * s + s = omega arith in
    record {
      written = c.append_number-out.ensures.written ∙ ap (λ l. l ++ F (get_or ps k 0)) c.loop-place.invariant.written
          ∙ append_assoc a.filling.0 (flat_map F (take k ps)) (F (get_or ps k 0)) ∙ ap (λ l. a.filling.0 ++ l) (sym (flat_map_more F ps k 0 lt));
      room = omega (arith, c.append_number-out.ensures.room, c.loop-place.invariant.room, next);
    }
