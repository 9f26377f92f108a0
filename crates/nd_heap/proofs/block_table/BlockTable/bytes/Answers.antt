use Rattle.std.proofs.Common.{◌∙◌, sym, ap}
use Rattle.nd_heap.specs.Contents.{bases_of, blocks_of}
use Rattle.nd_heap.specs.Layers.{TableData, without}
use Rattle.nd_heap.specs.Live.{bytes_at}
use Rattle.nd_heap.specs.Sharing.{held_in}
use Rattle.nd_heap.specs.Values.{base_of}
use Rattle.nd_heap.proofs.Hiding.{gone_bytes, kept_bytes}
use Rattle.nd_heap.proofs.Stacking.{found_newer, found_older}
use Rattle.nd_heap.proofs.block_table.BlockTable.bytes.Goals as goal

pub returns-in-Some : goal.returns-in-Some
returns-in-Some c =
    let old = without (bases_of c.self.inside.gone.entries) (blocks_of (held_in c.self.inside.shared).entries) in
    c.as_slice.ensures ∙ c.as_ref.ensures ∙ sym (found_newer c.args.base _ c.self.inside.newer.entries old c.in-Some.ensures.value)
    ∙ ap (λ (t : TableData). bytes_at t.blocks (base_of c.args.base)) c.self.view_is

pub returns-then-has_base : goal.returns-then-has_base
returns-then-has_base c =
    let gone = bases_of c.self.inside.gone.entries in
    let all = blocks_of (held_in c.self.inside.shared).entries in
    let b = base_of c.args.base in
    sym (found_older c.args.base c.self.inside.newer.entries (without gone all) c.in_default.ensures.value ∙ gone_bytes gone all b (sym c.has_base.ensures ∙ c.if-has_base.true))
    ∙ ap (λ (t : TableData). bytes_at t.blocks b) c.self.view_is

pub returns : goal.returns
returns c =
    let gone = bases_of c.self.inside.gone.entries in
    let all = blocks_of (held_in c.self.inside.shared).entries in
    let b = base_of c.args.base in
    c.bytes_of.ensures ∙ ap (λ m. bytes_at (blocks_of m.entries) b) c.as_ref-2.ensures
    ∙ sym (found_older c.args.base c.self.inside.newer.entries (without gone all) c.in_default.ensures.value ∙ kept_bytes gone all b (sym c.has_base.ensures ∙ c.if-has_base.false))
    ∙ ap (λ (t : TableData). bytes_at t.blocks b) c.self.view_is
