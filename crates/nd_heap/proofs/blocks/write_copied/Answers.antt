use Rattle.std.proofs.Common.{◌∙◌, ap, ⊎_elim}
use Rattle.std.specs.Prelude.{is_ok}
use Rattle.nd_model.specs.Cells.Running as running
use Rattle.nd_heap.specs.Contents.{blocks_of}
use Rattle.nd_heap.specs.Live.{bytes_at}
use Rattle.nd_heap.specs.Values.{base_of}
use Rattle.nd_heap.proofs.Bases.{cloned_blocks, on_err, at_err}
use Rattle.nd_heap.proofs.blocks.write_copied.Goals as goal

pub returns-in_err-own-clause-err : goal.returns-in_err-own-clause-err
returns-in_err-own-clause-err g c = on_err _ (ap bytes_at (⊎_elim (λ e. ap (λ m. blocks_of m.entries) e) (cloned_blocks _ _) (at_err _ _ c.in_err-own.was c.make_mut.follows.holds-at-none)))

pub returns-in_err-write_block-clause-err : goal.returns-in_err-write_block-clause-err
returns-in_err-write_block-clause-err g c = on_err _ (ap (λ m. bytes_at (blocks_of m.entries)) (c.make_mut.follows.holds c.write_block.new.blocks (ap is_ok c.in_ok-own.was))
    ∙ at_err _ _ c.in_err-write_block.was c.write_block.ensures.err
    ∙ ap bytes_at (⊎_elim (λ e. ap (λ m. blocks_of m.entries) e) (cloned_blocks _ _) c.in_ok-own.ensures.value))

pub returns-clause-ok : goal.returns-clause-ok
returns-clause-ok g c = ap (λ m. bytes_at (blocks_of m.entries)) (c.make_mut.follows.holds c.write_block.new.blocks (ap is_ok c.in_ok-own.was)) ∙ c.in_ok-write_block.ensures.ok
    ∙ ap (λ bs. running.with_base (base_of c.args.base) (g.W.BlockWriter.written c.args.writer (bs (base_of c.args.base))) bs) (ap bytes_at (⊎_elim (λ e. ap (λ m. blocks_of m.entries) e) (cloned_blocks _ _) c.in_ok-own.ensures.value))
