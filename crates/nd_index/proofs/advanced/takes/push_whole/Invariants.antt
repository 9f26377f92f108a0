use Rattle.std.proofs.Common.{◌≡◌, ◌++◌, replicate}
use Rattle.nd_model.specs.Indexing.Advanced as model
use Rattle.nd_index.specs.Advanced.Takes.{takes_of}
use Rattle.nd_index.proofs.advanced.takes.push_whole.Given as goal

abbrev pub invariant-loop : goal.invariant-loop
invariant-loop l = takes_of l.takes.items ≡ takes_of l.initial.takes.items ++ replicate l.counter model.Whole
