use Rattle.std.proofs.Common.{◌∙◌, ◌&&◌, not, cond, ap, sym, refl, add-one, arith, []}
use Rattle.std.proofs.lemmas.List.{take_all}
use Rattle.nd_heap.specs.Contents.{bases_of, blocks_of}
use Rattle.nd_heap.specs.Layers.{is_block_among}
use Rattle.nd_heap.specs.Live.{bytes_at, is_base_among}
use Rattle.nd_heap.proofs.Picking.{removed_one, removed_more}
use Rattle.nd_heap.proofs.Plain.{and_true}
use Rattle.nd_heap.proofs.Stacking.{among_less, removed_among}
use Rattle.nd_heap.proofs.blocks.remove_blocks.Goals as goal

pub loop-i-init : goal.loop-i-init
loop-i-init c = (λ b. refl, λ b. sym (and_true (is_block_among (blocks_of c.args.blocks.now.entries) b)))

pub loop-i-preserved : goal.loop-i-preserved
loop-i-preserved c = rw add-one (
  λ b. removed_more c.args.bases.now.entries c.loop-i.i _ (sym c.in-Some.ensures.entry) b
      (bytes_at (blocks_of c.swap_remove.new.self.entries) b) (bytes_at (blocks_of c.loop-i.blocks.entries) b) (bytes_at (blocks_of c.args.blocks.now.entries) b)
      (removed_one c.in-Some.base.now c.loop-i.blocks.entries c.swap_remove.new.self.entries c.swap_remove.ensures.updates.0 b) (c.loop-i.invariant.0 b),
  λ b. among_less c.args.bases.now.entries c.loop-i.i _ b _ _ (is_block_among (blocks_of c.args.blocks.now.entries) b) (sym c.in-Some.ensures.entry)
      (removed_among c.in-Some.base.now c.loop-i.blocks.entries c.swap_remove.new.self.entries c.swap_remove.ensures.updates.0 b) (c.loop-i.invariant.1 b),
)

pub returns-clause-bytes : goal.returns-clause-bytes
returns-clause-bytes c = λ b. c.loop-i.invariant.0 b ∙ ap (λ es. cond (is_base_among (bases_of es) b) [] (bytes_at (blocks_of c.args.blocks.now.entries) b))
    (take_all c.loop-i.i c.args.bases.now.entries (omega (arith, c.loop-i-test.false, c.len-i-end.ensures.len)))

pub returns-clause-bases : goal.returns-clause-bases
returns-clause-bases c = λ b. c.loop-i.invariant.1 b ∙ ap (λ es. is_block_among (blocks_of c.args.blocks.now.entries) b && not (is_base_among (bases_of es) b))
    (take_all c.loop-i.i c.args.bases.now.entries (omega (arith, c.loop-i-test.false, c.len-i-end.ensures.len)))
