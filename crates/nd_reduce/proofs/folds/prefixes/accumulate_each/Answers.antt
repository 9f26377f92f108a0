use Rattle.std.proofs.Common.{rules, ◌≡◌, ℕ, ◌+◌, ◌*◌, ◌<◌, ◌≤◌, ◌^◌, ℤ, List, [], ◌∷◌, ◌++◌, length, take, take_all, FitsSigned, to_z, of_z, sym, ap, ◌∙◌, subst, arith, length-append}
use Rattle.std.proofs.Math.Nat.{mul-le-mul_right}
use Rattle.std.specs.Int.{w128}
use Rattle.std.proofs.lemmas.List.{length_push}
use mir.Facts.{to_z-of_z}
use Rattle.nd_model.specs.Grammar.Calls.{Reduction}
use Rattle.nd_model.specs.Arrays.Element.{Kind, size_of, bytes_of, wrap}
use Rattle.nd_model.specs.Making.Elementwise.{little}
use Rattle.nd_model.specs.Making.Reductions.{folded}
use Rattle.nd_model.proofs.Values.{length-bytes_of}
use Rattle.nd_types.specs.Kinds.{kind_of}
use Rattle.nd_convert.proofs.conversion.Written.{place_more}
use Rattle.nd_ufunc.specs.Loops.Sides.{number_on, numbers_on}
use Rattle.nd_reduce.specs.Folds.Lanes.{number_bytes, prefix_folds}
use Rattle.nd_reduce.proofs.folds.Prefixed.{one_fold}
use Rattle.nd_reduce.proofs.folds.Taken.{length-numbers, next_on}
use Rattle.nd_reduce.proofs.folds.prefixes.accumulate_each.Goals as goal

pub loop-index-preserved : goal.loop-index-preserved
loop-index-preserved g c =
    let a = c.args in let is = c.loop-index.invariant in let s = a.side in let k = c.loop-index.index in let to : Kind = kind_of a.to in let r : Reduction = g.F.FoldStep.reduction in
    let size = size_of to in let out = c.loop-index.out in let x : ℤ = number_on s k in
    let fx : FitsSigned w128 c.number_of.result = search rules in let fr : FitsSigned w128 c.result.result = search rules in
    let taken : (zs : List ℤ) → g.F.FoldStep.has_taken a.fold zs → g.F.FoldStep.has_taken c.step-all.result ((zs ++ numbers_on s k) ++ x ∷ [])
    = λ zs h. subst (g.F.FoldStep.has_taken c.step-all.result) (ap (λ (z : ℤ). (zs ++ numbers_on s k) ++ z ∷ []) (to_z-of_z fx ∙ c.number_of.ensures)) (c.step-all.ensures (zs ++ numbers_on s k) (is.taken zs h)) in
    let ys : List ℕ = bytes_of c.little.result (to_z w128 (of_z w128 c.result.result)) in
    let at : k * c.size-size.result ≡ k * size = ap (λ m. k * m) c.size-size.ensures.value in
    let most : (k + 1) * size ≤ a.count * size = mul-le-mul_right size (omega (arith, c.loop-index-test.true)) in
    let long : length ys ≡ size = ap (λ e. length (bytes_of e (to_z w128 (of_z w128 c.result.result)))) c.little.ensures ∙ length-bytes_of (little to) (to_z w128 (of_z w128 c.result.result)) in
    let inside : k * c.size-size.result ≤ length out = omega (arith, c.requires.out, is.len, most, at) in
    let end : (k + 1) * size ≡ k * c.size-size.result + length ys = omega (arith, long, at) in
    record {
      len = c.store_at.ensures.len ∙ is.len;
      taken = λ zs h. subst (g.F.FoldStep.has_taken c.step-all.result) (sym (next_on s k zs)) (taken zs h);
      done = λ zs few h.
          let all : List ℤ = (zs ++ numbers_on s k) ++ x ∷ [] in
          let short : length all < 2 ^ 64 = omega (arith, length_push (zs ++ numbers_on s k) x, length-append zs (numbers_on s k), length-numbers s k, c.loop-index-test.true, few) in
          let number : to_z w128 (of_z w128 c.result.result) ≡ wrap to (folded r all) = to_z-of_z fr ∙ c.result.ensures all short (taken zs h) ∙ ap (λ j. wrap j (folded r all)) (sym c.requires.to) in
          ap (take ((k + 1) * size)) c.store_at.ensures.bytes
          ∙ place_more out ys (number_bytes to (prefix_folds r zs (numbers_on s k))) ((k + 1) * size) (k * c.size-size.result) inside end (ap (λ m. take m out) at ∙ is.done zs few h)
          ∙ (λ i. number_bytes to (prefix_folds r zs (numbers_on s k)) ++ bytes_of (c.little.ensures i) (number i))
          ∙ one_fold r to zs (numbers_on s k) x ∙ ap (λ l. number_bytes to (prefix_folds r zs l)) (sym (next_on s k []));
    }

pub returns-clause-bytes : goal.returns-clause-bytes
returns-clause-bytes g c = λ zs few h.
    let a = c.args in let is = c.loop-index.invariant in let to : Kind = kind_of a.to in let out = c.loop-index.out in
    let all : c.loop-index.index ≡ a.count = omega (arith, c.loop-index-test.false) in
    let bytes : c.loop-index.index * size_of to ≡ a.count * size_of to = ap (λ m. m * size_of to) all in
    sym (take_all (c.loop-index.index * size_of to) out (omega (arith, is.len, c.requires.out, bytes))) ∙ is.done zs few h
    ∙ ap (λ n. number_bytes to (prefix_folds g.F.FoldStep.reduction zs (numbers_on a.side n))) all
