use Rattle.std.proofs.Common.{rules, ◌≡◌, ℤ, ◌++◌, FitsSigned, to_z, of_z, sym, ap, ◌∙◌, subst, arith}
use Rattle.std.specs.Int.{w128}
use mir.Facts.{to_z-of_z}
use Rattle.nd_ufunc.specs.Loops.Sides.{numbers_on}
use Rattle.nd_ufunc.specs.declared.loops.kernel.Side.TheVariants.{Same}
use Rattle.nd_reduce.proofs.folds.Taken.{next_on}
use Rattle.nd_reduce.proofs.folds.lanes.fold_same.Goals as goal

pub loop-index-preserved : goal.loop-index-preserved
loop-index-preserved g c = λ zs h.
    let z : ℤ = to_z w128 (of_z w128 c.args.number) in let k = c.loop-index._index in
    subst (g.F.FoldStep.has_taken c.step-all.result) (sym (next_on (Same z) k zs)) (c.step-all.ensures (zs ++ numbers_on (Same z) k) (c.loop-index.invariant zs h))

pub returns : goal.returns
returns g c = λ zs h.
    let fits : FitsSigned w128 c.args.number = search rules in let all : c.loop-index._index ≡ c.args.count = omega (arith, c.loop-index-test.false) in
    subst (g.F.FoldStep.has_taken c.loop-index.all) (ap (λ (z : ℤ). zs ++ numbers_on (Same z) c.loop-index._index) (to_z-of_z fits) ∙ ap (λ k. zs ++ numbers_on (Same c.args.number) k) all)
    (c.loop-index.invariant zs h)
