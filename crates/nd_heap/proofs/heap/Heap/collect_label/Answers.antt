use Rattle.std.proofs.Common.{◌≡◌, ◌∙◌, ◌&&◌, not, nat_eq, cond, [], ap, arith, refl}
use Rattle.nd_model.specs.Arrays.Value as values
use Rattle.nd_model.specs.Cells.Session as model
use Rattle.nd_heap.specs.Contents.{bases_of}
use Rattle.nd_heap.specs.Live.{bytes_at, is_base_among}
use Rattle.nd_heap.specs.Loose.{HeapData}
use Rattle.nd_heap.proofs.Loosening.{collected_label, label_loose, same_loose}
use Rattle.nd_heap.proofs.Picking.{cloned_bases}
use Rattle.nd_heap.proofs.heap.Heap.collect_label.Goals as goal

pub remove-requires : goal.remove-requires
remove-requires c = omega (arith, c.in_ok-make_room.ensures.ok, c.len.ensures.len, c.len-2.ensures.len)

pub returns-clause-ok : goal.returns-clause-ok
returns-clause-ok c = λ b.
    let names = c.self.inside.names in
    let old = bases_of c.self.inside.loose.entries in
    let own : (b : values.Base) → is_base_among (bases_of c.retain_label.new.bases.entries) b ≡ (is_base_among old b && nat_eq b.label c.args.label)
    = λ b. c.retain_label.ensures b ∙ ap (λ bs. is_base_among bs b && nat_eq b.label c.args.label) (cloned_bases _ _ c.in_ok-lost.ensures.cases) in
    collected_label c.args.label names c.make_room.new.self.blocks c.remove.new.self.blocks old (bases_of c.retain_label.new.bases.entries) (bases_of c.retain_unheld.new.bases.entries)
    own c.retain_unheld.ensures.left c.remove.ensures.bytes
    (same_loose names names c.self.inside.blocks.blocks c.make_room.new.self.blocks (bases_of c.self.inside.loose.entries) refl (ap bytes_at c.make_room.ensures.blocks) c.self.invariant.0) b
    ∙ ap (λ bs. cond (nat_eq b.label c.args.label && not (model.is_held b names)) [] (bytes_at bs b)) c.make_room.ensures.blocks
    ∙ ap (λ (h : HeapData). cond (nat_eq b.label c.args.label && not (model.is_held b h.names)) [] (bytes_at h.blocks b)) c.self.view_is

pub invariant_of-self-2 : goal.invariant_of-self-2
invariant_of-self-2 c =
    let names = c.self.inside.names in
    let old = bases_of c.self.inside.loose.entries in
    let own : (b : values.Base) → is_base_among (bases_of c.retain_label.new.bases.entries) b ≡ (is_base_among old b && nat_eq b.label c.args.label)
    = λ b. c.retain_label.ensures b ∙ ap (λ bs. is_base_among bs b && nat_eq b.label c.args.label) (cloned_bases _ _ c.in_ok-lost.ensures.cases) in
    let was = same_loose names names c.self.inside.blocks.blocks c.make_room.new.self.blocks (bases_of c.self.inside.loose.entries) refl (ap bytes_at c.make_room.ensures.blocks) c.self.invariant.0 in (
      label_loose c.args.label names c.make_room.new.self.blocks c.remove.new.self.blocks old (bases_of c.drop_label.new.bases.entries) c.drop_label.ensures.left
          (collected_label c.args.label names c.make_room.new.self.blocks c.remove.new.self.blocks old (bases_of c.retain_label.new.bases.entries) (bases_of c.retain_unheld.new.bases.entries)
          own c.retain_unheld.ensures.left c.remove.ensures.bytes was) was,
      omega (arith, c.in_ok-make_room.ensures.ok, c.len.ensures.len, c.len-2.ensures.len, c.remove.ensures.room, c.drop_label.ensures.less),
    )
