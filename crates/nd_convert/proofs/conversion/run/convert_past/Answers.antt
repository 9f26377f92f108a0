use Rattle.std.proofs.Common.{rules, ◌≡◌, ◌++◌, ◌+◌, ◌*◌, ◌<◌, ◌≤◌, List, ℕ, length, get_or, take, sym, ap, ◌∙◌, arith}
use Rattle.std.proofs.Math.Nat.{mul-le-mul_right}
use Rattle.std.specs.Int.{w128, cast_signed, cast_unsigned}
use Rattle.std.specs.Int.RustNames.{FitsSigned}
use mir.Facts.{to_z-of_z}
use Rattle.nd_model.specs.Arrays.Element.{size_of, bytes_of, wrap}
use Rattle.nd_model.specs.Arrays.Content.{number_at}
use Rattle.nd_model.proofs.Values.{length-bytes_of}
use Rattle.nd_convert.specs.Conversion.Converted.{converted_at, converted_bytes}
use Rattle.nd_convert.proofs.conversion.Written.{flat_map_more, place_more}
use Rattle.nd_convert.proofs.conversion.run.convert_past.Goals as goal

pub loop-index-preserved : goal.loop-index-preserved
loop-index-preserved c =
    let a = c.args in let k = c.loop-index.index in let out = c.loop-index.out in let ps = a.run.now in
    let F = converted_at a.to a.from a.bytes.now in
    let fx : FitsSigned w128 c.number_in-number.result = search rules in let fz : FitsSigned w128 c.wrap.result = search rules in
    let x : cast_signed w128 (cast_unsigned w128 c.number_in-number.result) ≡ number_at a.from a.bytes.now (get_or ps k 0) = to_z-of_z fx ∙ c.number_in-number.ensures ∙ ap (number_at a.from a.bytes.now) c.place.ensures in
    let z : cast_signed w128 (cast_unsigned w128 c.wrap.result) ≡ wrap a.to.kind (number_at a.from a.bytes.now (get_or ps k 0))
    = to_z-of_z fz ∙ c.wrap.ensures.value ∙ (λ i. wrap (c.kind.ensures i) (x i)) in
    let ys : List ℕ = bytes_of a.to (cast_signed w128 (cast_unsigned w128 c.wrap.result)) in
    let long : length ys ≡ size_of a.to.kind = length-bytes_of a.to (cast_signed w128 (cast_unsigned w128 c.wrap.result)) in
    let at : k * c.size-size.result ≡ k * size_of a.to.kind = ap (λ m. k * m) c.size-size.ensures.value in
    let lt : k < length ps = omega (arith, c.loop-index-test.true, c.count-index-end.ensures.value) in
    let room : (k + 1) * size_of a.to.kind ≤ length ps * size_of a.to.kind = mul-le-mul_right (size_of a.to.kind) (omega arith) in
    let inside : k * c.size-size.result ≤ length out = omega (arith, c.requires, c.loop-index.invariant.len, room, at) in
    record {
      len = c.store_at.ensures.len ∙ c.loop-index.invariant.len;
      done = ap (take ((k + 1) * size_of a.to.kind)) c.store_at.ensures.bytes
          ∙ place_more out ys _ ((k + 1) * size_of a.to.kind) (k * c.size-size.result) inside (omega (arith, at, long)) (ap (λ m. take m out) at ∙ c.loop-index.invariant.done)
          ∙ ap (λ l. converted_bytes a.to a.from a.bytes.now (take k ps) ++ l) (ap (bytes_of a.to) z)
          ∙ sym (flat_map_more F ps k 0 lt);
    }
