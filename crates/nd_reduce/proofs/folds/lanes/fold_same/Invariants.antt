use Rattle.std.proofs.Common.{ℤ, List, ◌++◌}
use Rattle.nd_ufunc.specs.Loops.Sides.{numbers_on}
use Rattle.nd_ufunc.specs.declared.loops.kernel.Side.TheVariants.{Same}
use Rattle.nd_reduce.proofs.folds.lanes.fold_same.Given as goal

abbrev pub invariant-loop-index : goal.invariant-loop-index
invariant-loop-index g l = (zs : List ℤ) → g.F.FoldStep.has_taken l.fn.fold zs → g.F.FoldStep.has_taken l.all (zs ++ numbers_on (Same l.number) l._index)
