use Rattle.std.proofs.Common.{◌≡◌, ◌+◌, ◌≤◌, drop}
use Rattle.nd_model.specs.Indexing.Advanced as model
use Rattle.nd_index.specs.Advanced.Takes.{takes_of}
use Rattle.nd_index.proofs.advanced.layout.count_before.Given as goal

abbrev pub invariant-loop-take : goal.invariant-loop-take
invariant-loop-take l = record {
  total : l.count + model.kept_before (takes_of (drop l.take-index l.takes)) ≡ model.kept_before (takes_of l.takes);
  few : l.count ≤ l.take-index;
}
