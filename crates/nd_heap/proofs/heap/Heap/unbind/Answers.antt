use Rattle.std.proofs.Common.{refl, ap, arith}
use Rattle.nd_heap.specs.Contents.{bases_of}
use Rattle.nd_heap.specs.Live.{bytes_at}
use Rattle.nd_heap.proofs.Loosening.{lost_loose, same_loose}
use Rattle.nd_heap.proofs.heap.Heap.unbind.Goals as goal

pub invariant_of-self-2 : goal.invariant_of-self-2
invariant_of-self-2 c =
    let names = c.self.inside.names in (
      lost_loose c.args.name.now names c.unbind.new.self c.make_room.new.self.blocks
          (bases_of c.self.inside.loose.entries) (bases_of c.loosen.new.loose.entries) c.in_ok-loosen.ensures.ok c.in_ok-unbind.ensures.holders
          (same_loose names names c.self.inside.blocks.blocks c.make_room.new.self.blocks (bases_of c.self.inside.loose.entries) refl (ap bytes_at c.make_room.ensures.blocks) c.self.invariant.0),
      omega (arith, c.in_ok-make_room.ensures.ok, c.loosen.ensures.len, c.len.ensures.len),
    )
