use Rattle.std.proofs.Common.{rules, ◌≡◌, ℕ, List, ◌+◌, ◌*◌, ◌≤◌, length, take, take_all, refl, sym, ap, ◌∙◌, arith}
use Rattle.std.proofs.Math.Nat.{mul-le-mul_right}
use Rattle.std.specs.List.{flat_map}
use Rattle.std.specs.Int.{w128, cast_signed, cast_unsigned}
use Rattle.std.specs.Int.RustNames.{FitsSigned}
use mir.Facts.{to_z-of_z}
use Rattle.nd_model.specs.Arrays.Element.{size_of, bytes_of, wrap}
use Rattle.nd_model.specs.Arrays.Content.{number_at}
use Rattle.nd_model.specs.Arrays.Tuple.{count_up}
use Rattle.nd_model.proofs.Values.{length-bytes_of}
use Rattle.nd_convert.specs.Conversion.Converted.{converted_at}
use Rattle.nd_view.proofs.InOrder.{flat_map-map}
use Rattle.nd_convert.proofs.conversion.Written.{one_more}
use Rattle.nd_ufunc.proofs.elementwise.replacing.convert_each.Goals as goal

pub loop-index-preserved : goal.loop-index-preserved
loop-index-preserved c =
    let a = c.args in let k = c.loop-index.index in let out = c.loop-index.out in
    let f : ℕ → List ℕ = λ j. converted_at a.to a.from a.bytes.now (0 + j * size_of a.from.kind) in
    let fx : FitsSigned w128 c.value_at-number.result = search rules in let fz : FitsSigned w128 c.wrap.result = search rules in
    let from : k * c.size-2.result ≡ 0 + k * size_of a.from.kind = ap (λ m. k * m) c.size-2.ensures.value ∙ omega arith in
    let x : cast_signed w128 (cast_unsigned w128 c.value_at-number.result) ≡ number_at a.from a.bytes.now (0 + k * size_of a.from.kind)
    = to_z-of_z fx ∙ c.value_at-number.ensures.value ∙ ap (number_at a.from a.bytes.now) from in
    let z : cast_signed w128 (cast_unsigned w128 c.wrap.result) ≡ wrap a.to.kind (number_at a.from a.bytes.now (0 + k * size_of a.from.kind))
    = to_z-of_z fz ∙ c.wrap.ensures.value ∙ (λ i. wrap (c.kind.ensures i) (x i)) in
    let ys : List ℕ = bytes_of a.to (cast_signed w128 (cast_unsigned w128 c.wrap.result)) in
    let size : c.size.result ≡ size_of a.to.kind = c.size.ensures.value in
    let long : length ys ≡ size_of a.to.kind = length-bytes_of a.to (cast_signed w128 (cast_unsigned w128 c.wrap.result)) in
    let at : k * c.size.result ≡ k * size_of a.to.kind = ap (λ m. k * m) size in
    let room : (k + 1) * size_of a.to.kind ≤ a.count * size_of a.to.kind = mul-le-mul_right (size_of a.to.kind) (omega (arith, c.loop-index-test.true)) in
    let inside : k * c.size.result ≤ length out = omega (arith, c.requires.out, c.loop-index.invariant.len, room, at) in
    record {
      len = c.store_at.ensures.len ∙ c.loop-index.invariant.len;
      done = ap (take ((k + 1) * size_of a.to.kind)) c.store_at.ensures.bytes
          ∙ one_more out ys k (size_of a.to.kind) ((k + 1) * size_of a.to.kind) (k * c.size.result) f at refl long inside (ap (bytes_of a.to) z) (ap (λ m. take m out) at ∙ c.loop-index.invariant.done);
    }

pub returns : goal.returns
returns c =
    let a = c.args in let out = c.loop-index.out in
    let all : c.loop-index.index ≡ a.count = omega (arith, c.loop-index-test.false) in
    let bytes : c.loop-index.index * size_of a.to.kind ≡ a.count * size_of a.to.kind = ap (λ m. m * size_of a.to.kind) all in
    let whole : length out ≤ c.loop-index.index * size_of a.to.kind = omega (arith, c.loop-index.invariant.len, c.requires.out, bytes) in
    sym (take_all (c.loop-index.index * size_of a.to.kind) out whole) ∙ c.loop-index.invariant.done
    ∙ (λ i. flat_map (λ k. converted_at a.to a.from a.bytes.now (0 + k * size_of a.from.kind)) (count_up 0 (all i)))
    ∙ sym (flat_map-map (converted_at a.to a.from a.bytes.now) (λ k. 0 + k * size_of a.from.kind) (count_up 0 a.count))
