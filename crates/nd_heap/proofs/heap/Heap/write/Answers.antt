use Rattle.std.proofs.Common.{refl, arith}
use Rattle.nd_heap.specs.Contents.{bases_of}
use Rattle.nd_heap.specs.Live.{bytes_at}
use Rattle.nd_heap.specs.Values.{base_of}
use Rattle.nd_heap.proofs.Bases.{at_err}
use Rattle.nd_heap.proofs.Loosening.{same_loose, written_loose}
use Rattle.nd_heap.proofs.heap.Heap.write.Goals as goal

pub invariant_of-self : goal.invariant_of-self
invariant_of-self g c =
    let names = c.self.inside.names in (
      same_loose names names c.self.inside.blocks.blocks c.write.new.self.blocks (bases_of c.self.inside.loose.entries)
          refl (at_err _ _ c.in_err-write.was c.write.ensures.err) c.self.invariant.0,
      omega (arith, c.self.invariant.1, c.write.ensures.room),
    )

pub invariant_of-self-2 : goal.invariant_of-self-2
invariant_of-self-2 g c =
    let old = c.self.inside.blocks.blocks in
    let b = base_of c.args.base in (
      written_loose b (g.W.BlockWriter.written c.args.writer (bytes_at old b)) c.self.inside.names old c.write.new.self.blocks (bases_of c.self.inside.loose.entries)
          (g.met.W.BlockWriter.keeps_length c.args.writer (bytes_at old b)) c.in_ok-write.ensures.ok c.self.invariant.0,
      omega (arith, c.self.invariant.1, c.write.ensures.room),
    )
