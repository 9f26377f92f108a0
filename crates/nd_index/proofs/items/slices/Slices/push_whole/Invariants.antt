use Rattle.std.proofs.Common.{◌≡◌, ◌++◌, replicate}
use Rattle.nd_model.specs.Indexing.Selecting as selecting
use Rattle.nd_index.proofs.items.slices.Slices.push_whole.Given as goal

abbrev pub invariant-loop : goal.invariant-loop
invariant-loop l = l.self ≡ l.initial.self ++ replicate l.counter selecting.whole_slice
