use Rattle.std.proofs.Common.{◌≡◌, drop}
use Rattle.nd_model.specs.Indexing.Advanced as model
use Rattle.nd_element.specs.Elements.{numbers_at}
use Rattle.nd_index.proofs.items.limits.outside_each.Given as goal

abbrev pub invariant-loop-at : goal.invariant-loop-at
invariant-loop-at l = model.outside_fault l.axis l.size (numbers_at l.elem l.bytes l.run) ≡ model.outside_fault l.axis l.size (numbers_at l.elem l.bytes (drop l.at l.run))
