use Rattle.std.proofs.Common.{refl, ap, arith}
use Rattle.nd_heap.specs.Contents.{bases_of}
use Rattle.nd_heap.specs.Live.{bytes_at}
use Rattle.nd_heap.specs.Values.{base_of}
use Rattle.nd_heap.proofs.Bases.{at_err}
use Rattle.nd_heap.proofs.Loosening.{more_free, more_loose, put_loose, same_loose}
use Rattle.nd_heap.proofs.heap.Heap.put_block.Goals as goal

pub invariant_of-self-in_err-put_block : goal.invariant_of-self-in_err-put_block
invariant_of-self-in_err-put_block c =
    let names = c.self.inside.names in
    let old = c.make_room.new.self.blocks in
    let was = bases_of c.self.inside.loose.entries in
    let loose = bases_of c.loosen_empty.new.loose.entries in (
      same_loose names names old c.put_block.new.self.blocks loose refl (at_err _ _ c.in_err-put_block.was c.put_block.ensures.err)
          (more_loose names old was loose (more_free was loose c.loosen_empty.ensures.more)
          (same_loose names names c.self.inside.blocks.blocks c.make_room.new.self.blocks (bases_of c.self.inside.loose.entries) refl (ap bytes_at c.make_room.ensures.blocks) c.self.invariant.0)),
      omega (arith, c.in_ok-make_room.ensures.ok, c.loosen_empty.ensures.len, c.len.ensures.len, c.put_block.ensures.room),
    )

pub invariant_of-self-2 : goal.invariant_of-self-2
invariant_of-self-2 c =
    let names = c.self.inside.names in (
      put_loose (base_of c.args.base) c.args.block.value names c.make_room.new.self.blocks c.put_block.new.self.blocks
          (bases_of c.self.inside.loose.entries) (bases_of c.loosen_empty.new.loose.entries)
          c.loosen_empty.ensures.more c.in_ok-loosen_empty.ensures.empty c.in_ok-put_block.ensures.ok
          (same_loose names names c.self.inside.blocks.blocks c.make_room.new.self.blocks (bases_of c.self.inside.loose.entries) refl (ap bytes_at c.make_room.ensures.blocks) c.self.invariant.0),
      omega (arith, c.in_ok-make_room.ensures.ok, c.loosen_empty.ensures.len, c.len.ensures.len, c.put_block.ensures.room),
    )
