use Rattle.std.proofs.Common.{arith}
use Rattle.nd_heap.specs.Contents.{bases_of}
use Rattle.nd_heap.proofs.Loosening.{same_loose}
use Rattle.nd_heap.proofs.heap.Heap.settle_early.Goals as goal

pub invariant_of-self-2 : goal.invariant_of-self-2
invariant_of-self-2 c = (same_loose c.self.inside.names c.settle_early.new.self c.self.inside.blocks.blocks c.settle_early-2.new.self.blocks (bases_of c.self.inside.loose.entries) c.settle_early.ensures c.settle_early-2.ensures.bytes c.self.invariant.0, omega (arith, c.self.invariant.1, c.settle_early-2.ensures.room))

pub invariant_of-self-in_err-settle_early-2 : goal.invariant_of-self-in_err-settle_early-2
invariant_of-self-in_err-settle_early-2 c = (same_loose c.self.inside.names c.settle_early.new.self c.self.inside.blocks.blocks c.settle_early-2.new.self.blocks (bases_of c.self.inside.loose.entries) c.settle_early.ensures c.settle_early-2.ensures.bytes c.self.invariant.0, omega (arith, c.self.invariant.1, c.settle_early-2.ensures.room))
