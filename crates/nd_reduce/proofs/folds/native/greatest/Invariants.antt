use Rattle.std.proofs.Common.{◌≡◌}
use Rattle.nd_model.specs.Making.Reductions.{best, greater}
use Rattle.nd_types.specs.Kinds.{kind_of}
use Rattle.nd_reduce.specs.Folds.Lanes.{numbers_in}
use Rattle.nd_reduce.proofs.folds.native.greatest.Given as goal

abbrev pub invariant-loop-index : goal.invariant-loop-index
invariant-loop-index g l = g.N.Native.number l.best ≡ best greater (numbers_in (kind_of l.kind) l.bytes l.index)
