use Rattle.std.proofs.Common.{rules, ◌≡◌, ℕ, List, ◌+◌, ◌*◌, ◌≤◌, length, take, get_or, take_all, refl, sym, ap, ◌∙◌, arith}
use Rattle.std.proofs.Math.Nat.{mul-le-mul_right}
use Rattle.std.specs.List.{flat_map}
use Rattle.std.specs.Int.{w128, cast_signed, cast_unsigned}
use Rattle.std.specs.Int.RustNames.{FitsSigned}
use mir.Facts.{to_z-of_z}
use Rattle.nd_model.specs.Arrays.Element.{size_of, bytes_of, wrap}
use Rattle.nd_model.specs.Arrays.Content.{number_at}
use Rattle.nd_model.specs.Arrays.Tuple.{count_up}
use Rattle.nd_model.proofs.Values.{length-bytes_of}
use Rattle.nd_convert.specs.Conversion.Converted.{converted_at}
use Rattle.nd_convert.proofs.conversion.Written.{one_more}
use Rattle.nd_ufunc.proofs.elementwise.Spreads.{firsts, next_of}
use Rattle.nd_ufunc.proofs.elementwise.spread.gather_spread.Goals as goal

pub value_at-number-requires : goal.value_at-number-requires
value_at-number-requires c =
    let a = c.args in let k = c.loop-index.index in
    let is = next_of a.spread.now c.loop-index.spread c.next-place.new.self k c.next-place.result c.loop-index.invariant.walk c.next-place.ensures in
    let held = c.requires.held k 0 (omega (arith, c.loop-index-test.true, c.requires.enough)) in
    omega (arith, held, is.0)

pub loop-index-preserved : goal.loop-index-preserved
loop-index-preserved c =
    let a = c.args in let k = c.loop-index.index in let out = c.loop-index.out in
    let is = next_of a.spread.now c.loop-index.spread c.next-place.new.self k c.next-place.result c.loop-index.invariant.walk c.next-place.ensures in
    let f : ℕ → List ℕ = λ j. converted_at a.to a.elem a.bytes.now (get_or a.spread.now j 0) in
    let fx : FitsSigned w128 c.value_at-number.result = search rules in let fz : FitsSigned w128 c.wrap.result = search rules in
    let x : cast_signed w128 (cast_unsigned w128 c.value_at-number.result) ≡ number_at a.elem a.bytes.now (get_or a.spread.now k 0)
    = to_z-of_z fx ∙ c.value_at-number.ensures.value ∙ ap (number_at a.elem a.bytes.now) (sym is.0) in
    let z : cast_signed w128 (cast_unsigned w128 c.wrap.result) ≡ wrap a.to.kind (number_at a.elem a.bytes.now (get_or a.spread.now k 0))
    = to_z-of_z fz ∙ c.wrap.ensures.value ∙ (λ i. wrap (c.kind.ensures i) (x i)) in
    let ys : List ℕ = bytes_of a.to (cast_signed w128 (cast_unsigned w128 c.wrap.result)) in
    let size : c.size-size.result ≡ size_of a.to.kind = c.size-size.ensures.value in
    let long : length ys ≡ size_of a.to.kind = length-bytes_of a.to (cast_signed w128 (cast_unsigned w128 c.wrap.result)) in
    let at : k * c.size-size.result ≡ k * size_of a.to.kind = ap (λ m. k * m) size in
    let room : (k + 1) * size_of a.to.kind ≤ a.count * size_of a.to.kind = mul-le-mul_right (size_of a.to.kind) (omega (arith, c.loop-index-test.true)) in
    let inside : k * c.size-size.result ≤ length out = omega (arith, c.requires.out, c.loop-index.invariant.len, room, at) in
    record {
      len = c.store_at.ensures.len ∙ c.loop-index.invariant.len;
      walk = is.1;
      done = ap (take ((k + 1) * size_of a.to.kind)) c.store_at.ensures.bytes
          ∙ one_more out ys k (size_of a.to.kind) ((k + 1) * size_of a.to.kind) (k * c.size-size.result) f at refl long inside (ap (bytes_of a.to) z) (ap (λ m. take m out) at ∙ c.loop-index.invariant.done);
    }

pub returns-clause-bytes : goal.returns-clause-bytes
returns-clause-bytes c =
    let a = c.args in let out = c.loop-index.out in
    let all : c.loop-index.index ≡ a.count = omega (arith, c.loop-index-test.false) in
    let bytes : c.loop-index.index * size_of a.to.kind ≡ a.count * size_of a.to.kind = ap (λ m. m * size_of a.to.kind) all in
    let whole : length out ≤ c.loop-index.index * size_of a.to.kind = omega (arith, c.loop-index.invariant.len, c.requires.out, bytes) in
    sym (take_all (c.loop-index.index * size_of a.to.kind) out whole) ∙ c.loop-index.invariant.done
    ∙ (λ i. flat_map (λ k. converted_at a.to a.elem a.bytes.now (get_or a.spread.now k 0)) (count_up 0 (all i)))
    ∙ firsts (converted_at a.to a.elem a.bytes.now) a.spread.now a.count c.requires.enough
