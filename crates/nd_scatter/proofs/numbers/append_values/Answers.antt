use Rattle.std.proofs.Common.{rules, ◌≡◌, ℕ, List, ◌++◌, ◌+◌, ◌*◌, ◌<◌, length, take, get_or, sym, ap, ◌∙◌, arith, append_assoc}
use Rattle.std.specs.List.{flat_map}
use Rattle.std.specs.Int.{w128, cast_signed, cast_unsigned}
use Rattle.std.specs.Int.RustNames.{FitsSigned}
use mir.Facts.{to_z-of_z}
use Rattle.nd_model.specs.Arrays.Content.{number_at}
use Rattle.nd_model.specs.Arrays.Element.{size_of, bytes_of}
use Rattle.nd_model.specs.Arrays.View.{One}
use Rattle.nd_model.proofs.Contents.{number_bytes}
use Rattle.nd_element.specs.Elements.{canonical_at}
use Rattle.nd_convert.proofs.conversion.Written.{flat_map_more}
use Rattle.nd_scatter.proofs.numbers.append_values.Goals as goal

pub loop-place-preserved : goal.loop-place-preserved
loop-place-preserved c =
    let a = c.args in let k = c.loop-place.place-index in let ps : List ℕ = a.places.now in let s : ℕ = size_of a.elem.kind in
    let F : ℕ → List ℕ = canonical_at (One a.elem) a.bytes.now in
    let lt : k < length ps = omega (arith, c.loop-place-test.true, c.loop-place.auto.place-index-end) in
    let fits : FitsSigned w128 c.number_in.result = search rules in
    let z : cast_signed w128 (cast_unsigned w128 c.number_in.result) ≡ number_at a.elem a.bytes.now (get_or ps k 0) = to_z-of_z fits ∙ c.number_in.ensures in
    let bytes : bytes_of a.elem (cast_signed w128 (cast_unsigned w128 c.number_in.result)) ≡ F (get_or ps k 0)
    = ap (bytes_of a.elem) z ∙ sym (number_bytes a.elem (number_at a.elem a.bytes.now (get_or ps k 0))) in
    let next : (k + 1) * s ≡ k * s + s = omega arith in
    record {
      written = c.push_number.ensures.written ∙ (λ i. c.loop-place.invariant.written i ++ bytes i)
          ∙ append_assoc a.filling.0 (flat_map F (take k ps)) (F (get_or ps k 0)) ∙ ap (λ l. a.filling.0 ++ l) (sym (flat_map_more F ps k 0 lt));
      room = omega (arith, c.push_number.ensures.left, c.loop-place.invariant.room, next);
    }
