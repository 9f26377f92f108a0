use Rattle.std.proofs.Common.{◌∙◌, sym, ap}
use mathlib.Core.Path.{fun_ext}
use Rattle.nd_heap.specs.Contents.{bases_of, blocks_of}
use Rattle.nd_heap.specs.Layers.{TableData, without}
use Rattle.nd_heap.specs.Live.{bytes_at}
use Rattle.nd_heap.specs.Sharing.{held_in}
use Rattle.nd_heap.proofs.Hiding.{bytes-without, same_without, without-none}
use Rattle.nd_heap.proofs.Stacking.{same_older}
use Rattle.nd_heap.proofs.block_table.BlockTable.drop_hidden.Goals as goal

pub returns-then-remove_own-clause-bytes : goal.returns-then-remove_own-clause-bytes
returns-then-remove_own-clause-bytes c =
    let gone = bases_of c.self.inside.gone.entries in
    let old = blocks_of (held_in c.self.inside.shared).entries in
    let left = blocks_of (held_in c.remove_own.new.blocks).entries in
    same_older (blocks_of c.self.inside.newer.entries) (without gone old) (without (bases_of c.clear.new.self.entries) left)
    (ap (λ bases. bytes_at (without (bases_of bases) left)) c.clear.ensures.empty ∙ ap bytes_at (without-none left)
    ∙ fun_ext (λ b. c.remove_own.ensures.own c.if-remove_own.true b ∙ sym (bytes-without gone old b)))
    ∙ ap (λ (t : TableData). bytes_at t.blocks) c.self.view_is

pub returns-else-remove_own-clause-bytes : goal.returns-else-remove_own-clause-bytes
returns-else-remove_own-clause-bytes c =
    let gone = bases_of c.self.inside.gone.entries in
    let old = blocks_of (held_in c.self.inside.shared).entries in
    let left = blocks_of (held_in c.remove_own.new.blocks).entries in
    same_older (blocks_of c.self.inside.newer.entries) (without gone old) (without gone left)
    (same_without gone old left (c.remove_own.ensures.shared c.if-remove_own.false))
    ∙ ap (λ (t : TableData). bytes_at t.blocks) c.self.view_is
