use Rattle.std.proofs.Common.{◌∙◌, ℕ, List, [], Bool, cond, nat_eq, Some, None, slice_index, ap}
use Rattle.nd_model.specs.Arrays.Value.{Base}
use Rattle.nd_model.specs.Cells.Running as running
use Rattle.nd_model.specs.Cells.Session.{is_held}
use Rattle.nd_model.specs.Cells.Footprint.{replayed}
use Rattle.nd_heap.specs.Contents.{bases_of, blocks_of}
use Rattle.nd_session.specs.Session.Fields.{traced}
use Rattle.nd_heap.specs.Live.{bytes_at, is_base_among}
use Rattle.nd_trace.specs.Marked.{is_marked}
use Rattle.nd_session.specs.Session.Live.{running_of}
use Rattle.nd_session.proofs.session.Retaining.{kept_bases}
use Rattle.nd_session.proofs.session.changes.keep.Goals as goal

pub returns-in-Ok-find_written-clause-bases : goal.returns-in-Ok-find_written-clause-bases
returns-in-Ok-find_written-clause-bases c = λ b.
    let r : running.Running = running_of (traced c.args.trace.now [] c.args.heap.now.blocks 0) in
    let own : Base → Bool = is_base_among (bases_of c.in_ok-own.own.entries) in
    let bytes : Base → List ℕ = bytes_at (blocks_of c.in_ok-blocks.blocks.entries) in
    (λ i. cond (nat_eq b.label (c.label-label.ensures i)) (cond (is_held b (replayed ((c.in-Ok.ensures ∙ c.events-done.ensures) i) [])) (bytes b) []) [])
    ∙ kept_bases r own bytes c.in_ok-blocks.ensures
    (λ b mine. c.in_ok-own.ensures b (ap (nat_eq b.label) c.label-label.ensures ∙ mine) ∙ ap (λ es. is_held b (replayed es [])) c.events-done.ensures) b

pub returns-in-Ok-find_written-clause-writes : goal.returns-in-Ok-find_written-clause-writes
returns-in-Ok-find_written-clause-writes c = λ b p.
    c.in-Ok-find_written.ensures b p
    ∙ (λ i. cond (nat_eq b.label (c.label-label.ensures i)) None (cond (is_marked (c.written_bytes.ensures i) b p) (Some (slice_index (bytes_at c.args.heap.now.blocks b) p)) None))
