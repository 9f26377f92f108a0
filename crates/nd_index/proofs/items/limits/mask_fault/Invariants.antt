use Rattle.std.proofs.Common.{◌≡◌, ◌+◌, drop}
use Rattle.nd_model.specs.Indexing.Advanced as model
use Rattle.nd_index.proofs.items.limits.mask_fault.Given as goal

abbrev pub invariant-loop-number : goal.invariant-loop-number
invariant-loop-number l = model.mask_fault l.sizes l.first l.shape ≡ model.mask_fault l.sizes (l.first + l.number) (drop l.number l.shape)
