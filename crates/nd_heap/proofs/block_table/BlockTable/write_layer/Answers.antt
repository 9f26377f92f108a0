use Rattle.std.proofs.Common.{◌∙◌, ap, sym, true, false}
use Rattle.nd_model.specs.Cells.Running as running
use Rattle.nd_heap.specs.Contents.{bases_of, blocks_of}
use Rattle.nd_heap.specs.Layers.{TableData, without}
use Rattle.nd_heap.specs.Live.{bytes_at}
use Rattle.nd_heap.specs.Sharing.{held_in}
use Rattle.nd_heap.specs.Values.{base_of}
use Rattle.nd_heap.proofs.Bases.{on_err, at_err, nothing_written}
use Rattle.nd_heap.proofs.Hiding.{gone_bytes, gone_stacked, same_without, written_without}
use Rattle.nd_heap.proofs.Stacking.{among_is, same_newer, same_older, written_newer, written_older}
use Rattle.nd_heap.proofs.block_table.BlockTable.write_layer.Goals as goal

pub returns-in_err-write_block-clause-err : goal.returns-in_err-write_block-clause-err
returns-in_err-write_block-clause-err g c =
    let old = without (bases_of c.self.inside.gone.entries) (blocks_of (held_in c.self.inside.shared).entries) in
    on_err _ (same_newer (blocks_of c.self.inside.newer.entries) (blocks_of c.write_block.new.blocks.entries) old c.write_block.ensures.bases
    (at_err _ _ c.in_err-write_block.was c.write_block.ensures.err) ∙ ap (λ (t : TableData). bytes_at t.blocks) c.self.view_is)

pub returns-then-contains_key-clause-ok : goal.returns-then-contains_key-clause-ok
returns-then-contains_key-clause-ok g c =
    let old = without (bases_of c.self.inside.gone.entries) (blocks_of (held_in c.self.inside.shared).entries) in
    written_newer (blocks_of c.self.inside.newer.entries) (blocks_of c.write_block.new.blocks.entries) old c.write_block.ensures.bases
    (base_of c.args.base) (g.W.BlockWriter.written c.args.writer) (among_is c.args.base c.self.inside.newer.entries c.contains_key.result true c.contains_key.ensures c.if-contains_key.true) c.in_ok-write_block.ensures.ok
    ∙ ap (λ (t : TableData). running.with_base (base_of c.args.base) (g.W.BlockWriter.written c.args.writer (bytes_at t.blocks (base_of c.args.base))) (bytes_at t.blocks)) c.self.view_is

pub returns-then-has_base-clause-ok : goal.returns-then-has_base-clause-ok
returns-then-has_base-clause-ok g c =
    let gone = bases_of c.self.inside.gone.entries in
    let all = blocks_of (held_in c.self.inside.shared).entries in
    let newer = blocks_of c.self.inside.newer.entries in
    let b = base_of c.args.base in
    sym (nothing_written (g.W.BlockWriter.written c.args.writer) (g.met.W.BlockWriter.keeps_length c.args.writer) b (bytes_at c.args.self.now.blocks)
    (sym (ap (λ (t : TableData). bytes_at t.blocks b) c.self.view_is)
    ∙ gone_stacked newer (without gone all) b (among_is c.args.base c.self.inside.newer.entries c.contains_key.result false c.contains_key.ensures c.if-contains_key.false)
    (gone_bytes gone all b (sym c.has_base.ensures ∙ c.if-has_base.true))))

pub returns-in_err-write-clause-err : goal.returns-in_err-write-clause-err
returns-in_err-write-clause-err g c =
    let gone = bases_of c.self.inside.gone.entries in
    let all = blocks_of (held_in c.self.inside.shared).entries in
    let after = blocks_of (held_in c.write.new.blocks).entries in
    on_err _ (same_older (blocks_of c.self.inside.newer.entries) (without gone all) (without gone after)
    (same_without gone all after (at_err _ _ c.in_err-write.was c.write.ensures.err)) ∙ ap (λ (t : TableData). bytes_at t.blocks) c.self.view_is)

pub returns-clause-ok : goal.returns-clause-ok
returns-clause-ok g c =
    let gone = bases_of c.self.inside.gone.entries in
    let all = blocks_of (held_in c.self.inside.shared).entries in
    let after = blocks_of (held_in c.write.new.blocks).entries in
    let b = base_of c.args.base in
    let f = g.W.BlockWriter.written c.args.writer in
    written_older (blocks_of c.self.inside.newer.entries) (without gone all) (without gone after) b f
    (among_is c.args.base c.self.inside.newer.entries c.contains_key.result false c.contains_key.ensures c.if-contains_key.false)
    (written_without gone all after b f (sym c.has_base.ensures ∙ c.if-has_base.false) c.in_ok-write.ensures.ok)
    ∙ ap (λ (t : TableData). running.with_base b (f (bytes_at t.blocks b)) (bytes_at t.blocks)) c.self.view_is
