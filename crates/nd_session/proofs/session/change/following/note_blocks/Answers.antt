use Rattle.std.proofs.Common.{List, map, refl, subst}
use Rattle.std.specs.List.{All}
use Rattle.std.proofs.lemmas.List.Elements.{recursion_from_All}
use Rattle.nd_heap.specs.Contents.{blocks_of}
use Rattle.nd_session.specs.Session.Change.{IsCarriedPast}
use Rattle.nd_session.specs.Session.Now.{block_now, part_now}
use Rattle.nd_session.specs.Session.Changes.{ChangesData}
use Rattle.nd_session.specs.Session.Found.{by_base, bytes_of}
use Rattle.nd_session.specs.Session.Live.{live}
use Rattle.nd_session.proofs.session.Carrying.{IsEntryNow, IsOwnNow, blocks_with}
use Rattle.nd_session.proofs.session.change.following.note_blocks.Goals as goal
use Rattle.nd_trace.specs.declared.trace.Event.{Event}
use Rattle.nd_trace.specs.Events.{event_of}

pub returns : goal.returns
returns c = λ b.
    let i = c.changes.inside in
    let d : ChangesData = record { label = i.label; next = i.next; events = map event_of i.events.items; written = by_base bytes_of i.written.entries; blocks = blocks_of i.blocks.entries } in
    let now = (live c.args.session.now).bytes in
    let old = block_now c.args.blocks.now.entries in
    let mid = block_now c.note_own.new.blocks.entries in
    let new = block_now c.note_written.new.blocks.entries in
    let own : All (IsOwnNow i.label now mid) i.events.items = subst (λ (es : List Event). All (IsOwnNow i.label now mid) es) c.deref.ensures.value c.in_ok-note_own.ensures.all in
    let was = part_now c.args.parts.now.entries in
    let is = part_now c.note_written.new.parts.entries in
    let beside = c.args.beside in
    subst (λ (d : ChangesData). IsCarriedPast now d beside old new was is b) c.changes.view_is
    (blocks_with now d beside i.events.items i.written.entries old mid new was is refl refl
    c.in_ok-note_own.ensures.noted (recursion_from_All (IsOwnNow i.label now mid) i.events.items own)
    c.in_ok-note_written.ensures.noted c.in_ok-note_written.ensures.bytes
    (recursion_from_All (IsEntryNow now i.label beside new is) i.written.entries c.in_ok-note_written.ensures.all) b)
