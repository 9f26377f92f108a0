use Rattle.std.proofs.Common.{◌∙◌, ◌||◌, refl, sym, ap, arith}
use Rattle.std.specs.Rc.{rc_str_bytes}
use Rattle.nd_model.specs.Cells.Session as model
use Rattle.nd_model.specs.Arrays.Value as values
use Rattle.nd_heap.specs.Contents.{bases_of}
use Rattle.nd_heap.specs.Live.{bytes_at, is_base_among}
use Rattle.nd_heap.specs.Loose.{lies_in_found}
use Rattle.nd_heap.specs.Values.{value_of}
use Rattle.nd_heap.proofs.Loosening.{bound_loose, same_loose}
use Rattle.nd_heap.proofs.heap.Heap.bind.Goals as goal

pub invariant_of-self-2 : goal.invariant_of-self-2
invariant_of-self-2 c =
    let n = rc_str_bytes c.args.name in
    let names = c.self.inside.names in
    let loose = bases_of c.loosen_bound.new.loose.entries in (
      bound_loose n (value_of c.args.value.value) names c.bind.new.self c.make_room.new.self.blocks (bases_of c.self.inside.loose.entries) loose
          c.in_ok-bind.ensures.ok c.loosen_bound.ensures.more
          (λ b lay. sym (ap (λ v. is_base_among loose b || values.lies_in b (value_of v)) c.as_ref.ensures)
          ∙ c.in_ok-loosen_bound.ensures.lost b (ap (λ m. lies_in_found b (model.lookup m names)) c.as_str.ensures.value ∙ lay))
          (same_loose names names c.self.inside.blocks.blocks c.make_room.new.self.blocks (bases_of c.self.inside.loose.entries) refl (ap bytes_at c.make_room.ensures.blocks) c.self.invariant.0),
      omega (arith, c.in_ok-make_room.ensures.ok, c.loosen_bound.ensures.len, c.len.ensures.len),
    )
