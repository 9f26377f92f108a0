use Rattle.std.proofs.Common.{rules, ◌≡◌, ℕ, List, ◌+◌, ◌*◌, ◌≤◌, length, take, take_all, refl, sym, ap, ◌∙◌, arith, FitsSigned}
use Rattle.std.proofs.Math.Nat.{mul-le-mul_right}
use Rattle.std.specs.List.{flat_map}
use Rattle.std.specs.Int.{w128, cast_signed, cast_unsigned}
use mir.Facts.{to_z-of_z}
use Rattle.nd_model.specs.Arrays.Element.{Kind, size_of, bytes_of}
use Rattle.nd_model.specs.Making.Elementwise.{little}
use Rattle.nd_model.specs.Arrays.Tuple.{count_up}
use Rattle.nd_model.proofs.Values.{length-bytes_of}
use Rattle.nd_types.specs.Kinds.{kind_of}
use Rattle.nd_convert.proofs.conversion.Written.{one_more}
use Rattle.nd_ufunc.specs.Loops.Sides.{number_on}
use Rattle.nd_ufunc.proofs.loops.Zipped.{by_items}
use Rattle.nd_ufunc.proofs.loops.kernel.apply_each.Goals as goal

pub loop-index-preserved : goal.loop-index-preserved
loop-index-preserved g c =
    let a = c.args in let k = c.loop-index.index in let out = c.loop-index.out in let to : Kind = kind_of a.to in
    let f : ℕ → List ℕ = λ j. bytes_of (little to) (g.O.Operation.gives to (number_on a.left j) (number_on a.right j)) in
    let fits : FitsSigned w128 c.result_at-number.result = search rules in
    let z : cast_signed w128 (cast_unsigned w128 c.result_at-number.result) ≡ g.O.Operation.gives to (number_on a.left k) (number_on a.right k)
    = to_z-of_z fits ∙ c.result_at-number.ensures in
    let ys : List ℕ = bytes_of c.little.result (cast_signed w128 (cast_unsigned w128 c.result_at-number.result)) in
    let is : ys ≡ f k = λ i. bytes_of (c.little.ensures i) (z i) in
    let long : length ys ≡ size_of to = ap length is ∙ length-bytes_of (little to) (g.O.Operation.gives to (number_on a.left k) (number_on a.right k)) in
    let at : k * c.size-size.result ≡ k * size_of to = ap (λ m. k * m) c.size-size.ensures.value in
    let room : (k + 1) * size_of to ≤ a.count * size_of to = mul-le-mul_right (size_of to) (omega (arith, c.loop-index-test.true)) in
    let inside : k * c.size-size.result ≤ length out = omega (arith, c.requires.out, c.loop-index.invariant.len, room, at) in
    record {
      len = c.store_at.ensures.len ∙ c.loop-index.invariant.len;
      done = ap (take ((k + 1) * size_of to)) c.store_at.ensures.bytes
          ∙ one_more out ys k (size_of to) ((k + 1) * size_of to) (k * c.size-size.result) f at refl long inside is (ap (λ m. take m out) at ∙ c.loop-index.invariant.done);
    }

pub returns : goal.returns
returns g c =
    let a = c.args in let out = c.loop-index.out in let to : Kind = kind_of a.to in
    let all : c.loop-index.index ≡ a.count = omega (arith, c.loop-index-test.false) in
    let bytes : c.loop-index.index * size_of to ≡ a.count * size_of to = ap (λ m. m * size_of to) all in
    let whole : length out ≤ c.loop-index.index * size_of to = omega (arith, c.loop-index.invariant.len, c.requires.out, bytes) in
    sym (take_all (c.loop-index.index * size_of to) out whole) ∙ c.loop-index.invariant.done
    ∙ ap (λ n. flat_map (λ j. bytes_of (little to) (g.O.Operation.gives to (number_on a.left j) (number_on a.right j))) (count_up 0 n)) all
    ∙ by_items (little to) (g.O.Operation.gives to) (number_on a.left) (number_on a.right) (count_up 0 a.count)
