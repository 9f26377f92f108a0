use Rattle.std.proofs.Common.{rules, ◌≡◌, ℕ, List, ◌∷◌, [], ◌+◌, ◌*◌, ◌≤◌, ◌++◌, sym, ap, ◌∙◌, arith, FitsSigned}
use Rattle.std.proofs.Math.Nat.{mul-le-mul_right}
use Rattle.std.proofs.lemmas.List.{flat_map_more}
use Rattle.std.specs.List.{flat_map}
use Rattle.std.specs.Int.{w128, cast_signed, cast_unsigned}
use mir.Facts.{to_z-of_z}
use Rattle.nd_model.specs.Arrays.Element.{Kind, size_of, bytes_of}
use Rattle.nd_model.specs.Making.Elementwise.{little}
use Rattle.nd_model.specs.Arrays.Tuple.{count_up}
use Rattle.nd_view.proofs.Tuples.{count_up_more}
use Rattle.nd_types.specs.Kinds.{kind_of}
use Rattle.nd_ufunc.specs.Loops.Sides.{number_on}
use Rattle.nd_ufunc.proofs.loops.Zipped.{by_items}
use Rattle.nd_ufunc.proofs.loops.kernel.append_each.Goals as goal

pub push_number-requires : goal.push_number-requires
push_number-requires g c =
    let a = c.args in let k = c.loop-index.index in let s : ℕ = size_of (kind_of a.to) in
    let room : (k + 1) * s ≤ a.count * s = mul-le-mul_right s (omega (arith, c.loop-index-test.true)) in
    let more : (k + 1) * s ≡ k * s + s = omega arith in
    let fits : s ≤ c.loop-index.out.1 = omega (arith, c.requires.room, c.loop-index.invariant.room, room, more) in
    let size : size_of c.little.result.kind ≡ s = ap (λ e. size_of e.kind) c.little.ensures in
    omega (arith, fits, size)

pub loop-index-preserved : goal.loop-index-preserved
loop-index-preserved g c =
    let a = c.args in let k = c.loop-index.index in let to : Kind = kind_of a.to in let s : ℕ = size_of to in
    let f : ℕ → List ℕ = λ j. bytes_of (little to) (g.O.Operation.gives to (number_on a.left j) (number_on a.right j)) in
    let fits : FitsSigned w128 c.result_at-number.result = search rules in
    let z : cast_signed w128 (cast_unsigned w128 c.result_at-number.result) ≡ g.O.Operation.gives to (number_on a.left k) (number_on a.right k)
    = to_z-of_z fits ∙ c.result_at-number.ensures in
    let ys : List ℕ = bytes_of c.little.result (cast_signed w128 (cast_unsigned w128 c.result_at-number.result)) in
    let is : ys ≡ f k = λ i. bytes_of (c.little.ensures i) (z i) in
    let none : 0 + k ≡ k = omega arith in
    let size : size_of c.little.result.kind ≡ s = ap (λ e. size_of e.kind) c.little.ensures in
    let more : (k + 1) * s ≡ k * s + s = omega arith in
    record {
      written = c.push_number.ensures.written ∙ (λ i. c.loop-index.invariant.written i ++ is i) ∙ flat_map_more f a.filling.0 (count_up 0 k) k
          ∙ ap (λ j. a.filling.0 ++ flat_map f (count_up 0 k ++ j ∷ [])) (sym none) ∙ ap (λ l. a.filling.0 ++ flat_map f l) (sym (count_up_more 0 k));
      room = omega (arith, c.push_number.ensures.left, c.loop-index.invariant.room, size, more);
    }

pub returns-clause-written : goal.returns-clause-written
returns-clause-written g c =
    let a = c.args in let to : Kind = kind_of a.to in
    let all : c.loop-index.index ≡ a.count = omega (arith, c.loop-index-test.false) in
    c.loop-index.invariant.written
    ∙ ap (λ n. a.filling.0 ++ flat_map (λ j. bytes_of (little to) (g.O.Operation.gives to (number_on a.left j) (number_on a.right j))) (count_up 0 n)) all
    ∙ ap (λ l. a.filling.0 ++ l) (by_items (little to) (g.O.Operation.gives to) (number_on a.left) (number_on a.right) (count_up 0 a.count))

pub returns-clause-room : goal.returns-clause-room
returns-clause-room g c =
    let a = c.args in let s : ℕ = size_of (kind_of a.to) in
    let all : c.loop-index.index ≡ a.count = omega (arith, c.loop-index-test.false) in
    ap (λ n. c.loop-index.out.1 + n * s) (sym all) ∙ c.loop-index.invariant.room
