use Rattle.std.proofs.Common.{◌≡◌, ◌∙◌, ap, sym}
use Rattle.nd_model.specs.Cells.Running as running
use Rattle.nd_heap.specs.Contents.{blocks_of}
use Rattle.nd_heap.specs.Layers.{is_block_among}
use Rattle.nd_heap.specs.Live.{bytes_at}
use Rattle.nd_heap.specs.Values.{base_of}
use Rattle.nd_heap.proofs.Bases.{on_err, found_bytes, found_block, written_block, same_block, nothing_put}
use Rattle.nd_heap.proofs.Stacking.{among_written}
use Rattle.nd_heap.proofs.blocks.write_block.Goals as goal

pub returns-in_default-clause-ok : goal.returns-in_default-clause-ok
returns-in_default-clause-ok g c = ap (λ m. bytes_at (blocks_of m.entries)) c.get_mut.follows.holds-at-none
    ∙ sym (nothing_put (g.W.BlockWriter.written c.args.writer) (g.met.W.BlockWriter.keeps_length c.args.writer) c.args.base c.args.blocks.now.entries c.in_default.ensures.value)

pub returns-in_default-clause-bases : goal.returns-in_default-clause-bases
returns-in_default-clause-bases g c = λ b. ap (λ m. is_block_among (blocks_of m.entries) b) c.get_mut.follows.holds-at-none

pub returns-in_err-rewrite-clause-err : goal.returns-in_err-rewrite-clause-err
returns-in_err-rewrite-clause-err g c =
    let es = c.args.blocks.now.entries in
    let last = c.rewrite.new.shared in
    on_err _ (written_block c.args.base c.in-Some.shared.now last es _ (c.get_mut.follows.holds last).0 c.in-Some.ensures.value
    ∙ same_block (base_of c.args.base) last.value (bytes_at (blocks_of es)) (c.in_err-rewrite.ensures.err ∙ ap found_bytes c.in-Some.ensures.value ∙ sym (found_block c.args.base es)))

pub returns-in_err-rewrite-clause-bases : goal.returns-in_err-rewrite-clause-bases
returns-in_err-rewrite-clause-bases g c = among_written c.args.base c.rewrite.new.shared c.args.blocks.now.entries _ (c.get_mut.follows.holds c.rewrite.new.shared).0

pub returns-clause-ok : goal.returns-clause-ok
returns-clause-ok g c =
    let es = c.args.blocks.now.entries in
    let last = c.rewrite.new.shared in
    let was : c.in-Some.shared.now.value ≡ bytes_at (blocks_of es) (base_of c.args.base) = ap found_bytes c.in-Some.ensures.value ∙ sym (found_block c.args.base es) in
    written_block c.args.base c.in-Some.shared.now last es _ (c.get_mut.follows.holds last).0 c.in-Some.ensures.value
    ∙ ap (λ bytes. running.with_base (base_of c.args.base) bytes (bytes_at (blocks_of es))) (c.in_ok-rewrite.ensures.ok ∙ ap (g.W.BlockWriter.written c.args.writer) was)

pub returns-clause-bases : goal.returns-clause-bases
returns-clause-bases g c = among_written c.args.base c.rewrite.new.shared c.args.blocks.now.entries _ (c.get_mut.follows.holds c.rewrite.new.shared).0
