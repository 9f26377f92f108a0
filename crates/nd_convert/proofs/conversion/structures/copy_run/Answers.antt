use Rattle.std.proofs.Common.{◌≡◌, ◌++◌, ◌+◌, ◌-◌, ◌*◌, ◌<◌, ◌≤◌, length, get_or, drop, take, sym, ap, ◌∙◌, arith, length-take, length-drop}
use Rattle.std.specs.List.{flat_map}
use Rattle.std.proofs.Math.Nat.{mul-le-mul_right}
use Rattle.std.proofs.lemmas.List.{length-replicate}
use Rattle.std.proofs.lemmas.Slice.{take-put_mid, drop-put_mid}
use Rattle.nd_element.specs.Elements.{canonical_structure}
use Rattle.nd_convert.proofs.conversion.Written.{flat_map_more}
use Rattle.nd_convert.proofs.conversion.Pieces.{same_further, length-put_mid}
use Rattle.nd_convert.proofs.conversion.structures.copy_run.Goals as goal

pub loop-index-preserved : goal.loop-index-preserved
loop-index-preserved c =
    let a = c.args in let is = c.loop-index.invariant in let out = c.loop-index.out in let part = c.write_structure.new.out in
    let k = c.loop-index.index in let size = c.size-size.result in let ps = a.run.now in let s = a.structure.now.1 in
    let F = canonical_structure a.structure.now a.bytes.now in
    let lt : k < length ps = omega (arith, c.loop-index-test.true, c.count-index-end.ensures.value) in
    let here : k * size ≡ k * s = ap (λ m. k * m) c.size-size.ensures.value in
    let next : (k + 1) * s ≡ k * s + s = omega arith in
    let room : (k + 1) * s ≤ length ps * s = mul-le-mul_right s (omega arith) in
    let whole : length a.out.now ≡ length ps * s = ap length c.requires.zeros ∙ length-replicate (length ps * s) 0 in
    let inside : k * size + s ≤ length out = omega (arith, is.len, whole, room, next, here) in
    let wide : k * size + size - k * size ≡ s = omega (arith, c.size-size.ensures.value) in
    let written : length part ≡ k * size + size - k * size = c.write_structure.auto.out ∙ omega (arith, length-take (k * size + size - k * size) (drop (k * size) out), length-drop (k * size) out, inside, wide) in
    let so_far : take (k * size) out ≡ flat_map F (take k ps) = ap (λ m. take m out) here ∙ is.done in
    let one : part ≡ F (get_or ps k 0) = c.write_structure.ensures ∙ ap F c.place.ensures in
    record {
      len = length-put_mid (k * size) (k * size + size - k * size) out part (omega (arith, inside, wide)) written ∙ is.len;
      rest = drop-put_mid (k * size) (k * size + size - k * size) out part ((k + 1) * s) (omega (arith, next, here, wide)) (omega (arith, inside)) written
          ∙ same_further a.out.now out (k * s) s ((k + 1) * s) next is.rest;
      done = take-put_mid (k * size) (k * size + size - k * size) out part ((k + 1) * s) (omega (arith, next, here, wide, written)) (omega (arith, inside))
          ∙ (λ i. so_far i ++ one i) ∙ sym (flat_map_more F ps k 0 lt);
    }
