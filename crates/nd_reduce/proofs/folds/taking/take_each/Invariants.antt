use Rattle.std.proofs.Common.{ℤ, List, ◌++◌}
use Rattle.nd_types.specs.Kinds.{kind_of}
use Rattle.nd_reduce.specs.Folds.Lanes.{numbers_in}
use Rattle.nd_reduce.proofs.folds.taking.take_each.Given as goal

abbrev pub invariant-loop-index : goal.invariant-loop-index
invariant-loop-index g l = (zs : List ℤ) → g.F.FoldStep.has_taken l.fn.fold zs → g.F.FoldStep.has_taken l.all (zs ++ numbers_in (kind_of l.kind) l.bytes l.index)
