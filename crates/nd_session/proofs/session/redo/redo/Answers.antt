use Rattle.std.proofs.Common.{◌∙◌, ap, subst, sym, map}
use Rattle.nd_model.specs.Cells.Session as session
use Rattle.nd_model.specs.Cells.Footprint.{replayed, HasNone}
use Rattle.nd_session.specs.Session.Changes.{ChangesData, changed}
use Rattle.nd_session.specs.Session.Found.{by_base, bytes_of}
use Rattle.nd_heap.specs.Contents.{blocks_of}
use Rattle.nd_trace.specs.Events.{event_of}
use Rattle.nd_heap.specs.Live.{bytes_at}
use Rattle.nd_session.proofs.session.Redoing.{none_there, redone}
use Rattle.nd_session.proofs.session.redo.redo.Goals as goal

pub share_own-requires : goal.share_own-requires
share_own-requires c =
    let s : session.Session = record { names = c.args.heap.now.names; bytes = bytes_at c.args.heap.now.blocks } in
    let i = c.changes.inside in
    let d : ChangesData = record { label = i.label; next = i.next; events = map event_of i.events.items; written = by_base bytes_of i.written.entries; blocks = blocks_of i.blocks.entries } in
    none_there d s (bytes_at c.replay.new.heap.blocks) (bytes_at c.put_back.new.heap.blocks) (subst (λ (k : ChangesData). HasNone k.label s) (sym c.changes.view_is) c.requires)
    (λ b. ap (λ bs. bytes_at bs b) c.replay.ensures.blocks ∙ ap (λ f. f b) c.settle.ensures.bytes ∙ c.collect.ensures.bytes b) c.in_ok-put_back.ensures.ok

pub returns-clause-names : goal.returns-clause-names
returns-clause-names c =
    let names = c.args.heap.now.names in
    c.in_ok-share_own.ensures.names ∙ c.in_ok-put_back.ensures.names ∙ c.in_ok-replay.ensures.names
    ∙ (λ i. replayed (map event_of (c.deref.ensures.value i)) ((c.settle.ensures.names ∙ c.collect.ensures.names) i)) ∙ ap (λ (k : ChangesData). replayed k.events names) c.changes.view_is

pub returns-clause-session : goal.returns-clause-session
returns-clause-session c =
    let s : session.Session = record { names = c.args.heap.now.names; bytes = bytes_at c.args.heap.now.blocks } in
    let i = c.changes.inside in
    let d : ChangesData = record { label = i.label; next = i.next; events = map event_of i.events.items; written = by_base bytes_of i.written.entries; blocks = blocks_of i.blocks.entries } in
    redone d s c.share_own.new.heap.names (bytes_at c.replay.new.heap.blocks) (bytes_at c.put_back.new.heap.blocks) (bytes_at c.share_own.new.heap.blocks)
    (subst (λ (k : ChangesData). HasNone k.label s) (sym c.changes.view_is) c.requires)
    (c.in_ok-share_own.ensures.names ∙ c.in_ok-put_back.ensures.names ∙ c.in_ok-replay.ensures.names ∙ (λ i. replayed (map event_of (c.deref.ensures.value i)) ((c.settle.ensures.names ∙ c.collect.ensures.names) i)))
    (λ b. ap (λ bs. bytes_at bs b) c.replay.ensures.blocks ∙ ap (λ f. f b) c.settle.ensures.bytes ∙ c.collect.ensures.bytes b) c.in_ok-put_back.ensures.ok c.in_ok-share_own.ensures.ok
    ∙ ap (λ (k : ChangesData). changed k s) c.changes.view_is
