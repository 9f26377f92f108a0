use Rattle.std.proofs.Common.{◌≡◌, length}
use Rattle.std.specs.List.{concat}
use Rattle.nd_model.specs.Indexing.Advanced as model
use Rattle.nd_element.specs.Elements.{numbers_at}
use Rattle.nd_index.specs.Items.Items.{numbers_of}
use Rattle.nd_index.proofs.items.limits.outside_fault.Given as goal

abbrev pub invariant-loop-run : goal.invariant-loop-run
invariant-loop-run l = model.outside_fault l.axis l.size (numbers_of l.array) ≡ model.outside_fault l.axis l.size (numbers_at l.array.elem.now l.array.bytes.now (concat l.runs))

abbrev pub decreases-loop-run : goal.decreases-loop-run
decreases-loop-run l = length l.runs
