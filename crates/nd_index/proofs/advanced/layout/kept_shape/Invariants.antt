use Rattle.std.proofs.Common.{◌≡◌, ◌+◌, ◌≤◌, ◌++◌, drop}
use Rattle.nd_model.specs.Indexing.Advanced as model
use Rattle.nd_index.specs.Advanced.Takes.{axes_taken, takes_of}
use Rattle.nd_index.proofs.advanced.layout.kept_shape.Given as goal

abbrev pub invariant-loop-take : goal.invariant-loop-take
invariant-loop-take l = record {
  done : l.kept.items ++ model.kept_shape (takes_of (drop l.take-index l.takes)) (drop l.axis l.sizes) ≡ model.kept_shape (takes_of l.takes) l.sizes;
  few : l.axis + axes_taken (takes_of (drop l.take-index l.takes)) ≤ 64;
}
