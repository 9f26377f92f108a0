use Rattle.std.proofs.Common.{rules, ◌≡◌, ℕ, ◌+◌, ◌*◌, ◌<◌, ◌≤◌, ◌^◌, ℤ, Option, List, [], ◌∷◌, ◌++◌, length, get_or, take, take_all, FitsSigned, to_z, of_z, sym, ap, ◌∙◌, subst, arith}
use Rattle.std.proofs.Math.Nat.{mul-le-mul_right}
use Rattle.std.specs.Int.{w128}
use Rattle.std.specs.List.{All}
use Rattle.std.proofs.lemmas.List.{length_push}
use Rattle.std.proofs.lemmas.List.Elements.{All-get_or}
use mir.Facts.{to_z-of_z}
use Rattle.nd_model.specs.Grammar.Calls.{Reduction}
use Rattle.nd_model.specs.Arrays.Content.{number_at}
use Rattle.nd_model.specs.Arrays.Element.{Kind, IsValue, size_of, bytes_of, wrap}
use Rattle.nd_model.specs.Making.Elementwise.{little}
use Rattle.nd_model.specs.Making.Reductions.{fold_kind, folded}
use Rattle.nd_model.proofs.Values.{length-bytes_of}
use Rattle.nd_types.specs.Kinds.{kind_of}
use Rattle.nd_convert.proofs.conversion.Written.{place_more}
use Rattle.nd_ufunc.specs.Loops.Sides.{number_on, numbers_on}
use Rattle.nd_reduce.specs.Folds.Lanes.{fold_bytes}
use Rattle.nd_reduce.specs.Axes.Tables.{HasBest, best_size, more_columns}
use Rattle.nd_reduce.proofs.axes.Tabled.{column_more, one_column, read_best, read_fold}
use Rattle.nd_reduce.proofs.axes.columns.extend_each.Goals as goal

pub fold_after-before-requires : goal.fold_after-before-requires
fold_after-before-requires g c =
    let a = c.args in let k = c.loop-index.index in let size : ℕ = best_size g.F.Best.Bests.kept (kind_of a.kind) in
    let most : (k + 1) * size ≤ a.count * size = mul-le-mul_right size (omega (arith, c.loop-index-test.true)) in omega (arith, most, c.requires.bests)

pub loop-index-preserved : goal.loop-index-preserved
loop-index-preserved g c =
    let a = c.args in let is = c.loop-index.invariant in let s = a.side in let k = c.loop-index.index in let to : Kind = kind_of a.to in let kind : Kind = kind_of a.kind in
    let r : Reduction = g.F.FoldStep.reduction in let b : Option Reduction = g.F.Best.Bests.kept in let size = size_of to in let out = c.loop-index.out in let x : ℤ = number_on s k in
    let fb : FitsSigned w128 c.number_in.result = search rules in let fx : FitsSigned w128 c.number_of.result = search rules in let fr : FitsSigned w128 c.result.result = search rules in
    let ys : List ℕ = bytes_of c.little.result (to_z w128 (of_z w128 c.result.result)) in
    let at : k * c.size-size.result ≡ k * size = ap (λ m. k * m) c.size-size.ensures.value in
    let most : (k + 1) * size ≤ a.count * size = mul-le-mul_right size (omega (arith, c.loop-index-test.true)) in
    let long : length ys ≡ size = ap (λ e. length (bytes_of e (to_z w128 (of_z w128 c.result.result)))) c.little.ensures ∙ length-bytes_of (little to) (to_z w128 (of_z w128 c.result.result)) in
    let inside : k * c.size-size.result ≤ length out = omega (arith, c.requires.out, is.len, most, at) in
    let end : (k + 1) * size ≡ k * c.size-size.result + length ys = omega (arith, long, at) in
    record {
      len = c.store_at.ensures.len ∙ is.len;
      done = λ columns many are.
          let column : List ℤ = get_or columns k [] in
          let lt : k < length columns = omega (arith, many, c.loop-index-test.true) in
          let numbers : length column ≡ a.taken = All-get_or (λ (zs : List ℤ). length zs ≡ a.taken) columns k [] lt are.all.long in
          let values : All (λ z. IsValue kind z) column = All-get_or (λ (zs : List ℤ). All (λ z. IsValue kind z) zs) columns k [] lt are.all.values in
          let before : (0 < a.taken) → to_z w128 (of_z w128 c.number_in.result) ≡ wrap (fold_kind r kind) (folded r column)
          = λ some. to_z-of_z fb ∙ c.number_in.ensures.value ∙ ap (λ l. number_at (little to) l (k * size)) (are.written some) ∙ read_fold r to columns k lt
          ∙ ap (λ j. wrap j (folded r column)) c.requires.to in
          let beside : (0 < a.taken) → HasBest b kind a.bests.now k column = λ some. read_best b kind a.bests.now columns k lt (are.beside some) in
          let taken : g.F.FoldStep.has_taken c.step-fold.result (column ++ x ∷ [])
          = subst (g.F.FoldStep.has_taken c.step-fold.result) (ap (λ (z : ℤ). column ++ z ∷ []) (to_z-of_z fx ∙ c.number_of.ensures)) (c.step-fold.ensures column (c.fold_after-before.ensures column numbers values before beside)) in
          let short : length (column ++ x ∷ []) < 2 ^ 64 = omega (arith, length_push column x, numbers, c.requires.few) in
          let number : to_z w128 (of_z w128 c.result.result) ≡ wrap to (folded r (column ++ x ∷ []))
          = to_z-of_z fr ∙ c.result.ensures (column ++ x ∷ []) short taken ∙ ap (λ j. wrap j (folded r (column ++ x ∷ []))) (sym c.requires.to) in
          let done : List (List ℤ) = more_columns (take k columns) (numbers_on s k) in
          ap (take ((k + 1) * size)) c.store_at.ensures.bytes
          ∙ place_more out ys (fold_bytes r to done) ((k + 1) * size) (k * c.size-size.result) inside end (ap (λ m. take m out) at ∙ is.done columns many are)
          ∙ (λ i. fold_bytes r to done ++ bytes_of (c.little.ensures i) (number i))
          ∙ one_column r to done (column ++ x ∷ []) ∙ ap (fold_bytes r to) (sym (column_more columns s k lt));
    }

pub returns : goal.returns
returns g c = λ columns many are.
    let a = c.args in let is = c.loop-index.invariant in let to : Kind = kind_of a.to in let out = c.loop-index.out in
    let all : c.loop-index.index ≡ a.count = omega (arith, c.loop-index-test.false) in
    let bytes : c.loop-index.index * size_of to ≡ a.count * size_of to = ap (λ m. m * size_of to) all in
    let whole : take c.loop-index.index columns ≡ columns = take_all c.loop-index.index columns (omega (arith, all, many)) in
    sym (take_all (c.loop-index.index * size_of to) out (omega (arith, is.len, c.requires.out, bytes))) ∙ is.done columns many are
    ∙ (λ i. fold_bytes g.F.FoldStep.reduction to (more_columns (whole i) (numbers_on a.side (all i))))
