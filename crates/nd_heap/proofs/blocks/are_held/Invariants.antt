use Rattle.std.proofs.Common.{◌≡◌, true}
use Rattle.nd_model.specs.Cells.Session as model
use Rattle.nd_heap.specs.declared.value.Base.{Base}
use Rattle.nd_heap.specs.Values.{base_of}
use Rattle.nd_heap.proofs.Entries.{AllBefore}
use Rattle.nd_heap.proofs.blocks.are_held.Given as goal

abbrev pub invariant-loop-i : goal.invariant-loop-i
invariant-loop-i l = AllBefore (λ (e : Base × Unit {0}). model.is_held (base_of e.0) l.names ≡ true) l.bases.entries l.i
