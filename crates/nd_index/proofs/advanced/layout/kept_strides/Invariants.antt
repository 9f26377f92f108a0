use Rattle.std.proofs.Common.{◌≡◌, ◌+◌, ◌≤◌, ◌++◌, drop}
use Rattle.nd_index.specs.Advanced.Takes.{axes_taken, takes_of}
use Rattle.nd_index.specs.Advanced.TakenWays as ways
use Rattle.nd_index.proofs.advanced.layout.kept_strides.Given as goal

abbrev pub invariant-loop-take : goal.invariant-loop-take
invariant-loop-take l = record {
  done : l.kept.items ++ ways.kept_strides (takes_of (drop l.take-index l.takes)) (drop l.axis l.strides) ≡ ways.kept_strides (takes_of l.takes) l.strides;
  few : l.axis + axes_taken (takes_of (drop l.take-index l.takes)) ≤ 64;
}
