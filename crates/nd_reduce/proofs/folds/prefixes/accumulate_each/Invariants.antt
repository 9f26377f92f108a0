use Rattle.std.proofs.Common.{◌≡◌, ℤ, ◌+◌, ◌*◌, ◌<◌, ◌^◌, List, ◌++◌, length, take}
use Rattle.nd_model.specs.Arrays.Element.{size_of}
use Rattle.nd_types.specs.Kinds.{kind_of}
use Rattle.nd_ufunc.specs.Loops.Sides.{numbers_on}
use Rattle.nd_reduce.specs.Folds.Lanes.{number_bytes, prefix_folds}
use Rattle.nd_reduce.proofs.folds.prefixes.accumulate_each.Given as goal

abbrev pub invariant-loop-index : goal.invariant-loop-index
invariant-loop-index g l = record {
  len : length l.out ≡ length l.fn.out;
  taken : (zs : List ℤ) → g.F.FoldStep.has_taken l.fn.fold zs → g.F.FoldStep.has_taken l.all (zs ++ numbers_on l.side l.index);
  done : (zs : List ℤ) → length zs + l.count < 2 ^ 64 → g.F.FoldStep.has_taken l.fn.fold zs
      → take (l.index * size_of (kind_of l.to)) l.out ≡ number_bytes (kind_of l.to) (prefix_folds g.F.FoldStep.reduction zs (numbers_on l.side l.index));
}
