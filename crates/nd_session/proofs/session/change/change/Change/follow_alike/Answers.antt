use Rattle.std.proofs.Common.{◌≡◌, ◌∙◌, ◌&&◌, nat_eq, List, None, cond, map, refl, sym, ap, subst}
use Rattle.std.specs.List.{All}
use Rattle.std.proofs.lemmas.List.Elements.{recursion_from_All}
use Rattle.nd_change.specs.Steps.{Follows}
use Rattle.nd_change.specs.Whole.{Whole, binds_in, whole_of}
use Rattle.nd_change.proofs.Whole.{follows_whole}
use Rattle.nd_heap.specs.Contents.{blocks_of}
use Rattle.nd_model.specs.Cells.Running as running
use Rattle.nd_model.specs.Cells.Running.{is_touched}
use Rattle.nd_model.specs.Cells.Session as model
use Rattle.nd_session.specs.Session.Change.{ChangeData, HasDone, change_of, whole_in}
use Rattle.nd_session.specs.Session.Now.{block_now, data_in, entry_now, part_now, value_now}
use Rattle.nd_session.specs.Session.Changes.{ChangesData}
use Rattle.nd_session.specs.Session.Found.{by_base, byte_found, bytes_of}
use Rattle.nd_session.specs.Session.Live.{live}
use Rattle.nd_session.proofs.session.Carrying.{IsOwnNow}
use Rattle.nd_session.proofs.session.Dropping.{part_out}
use Rattle.nd_session.proofs.session.Matching.{IsEntryUnlike, with_alike}
use Rattle.nd_session.proofs.session.change.change.Change.follow_alike.Goals as goal
use Rattle.nd_trace.specs.declared.trace.Event.{Event}
use Rattle.nd_trace.specs.Events.{event_of}

pub returns : goal.returns
returns c = λ r q j was is.
    let s = running.session_of (live c.args.session.now) in
    let i = c.old.inside in
    let k = c.new.inside in
    let d : ChangesData = record { label = i.label; next = i.next; events = map event_of i.events.items; written = by_base bytes_of i.written.entries; blocks = blocks_of i.blocks.entries } in
    let e : ChangesData = record { label = k.label; next = k.next; events = map event_of k.events.items; written = by_base bytes_of k.written.entries; blocks = blocks_of k.blocks.entries } in
    let old : Whole = whole_in (data_in c.self.inside) in
    let made = block_now c.note_own.new.blocks.entries in
    let left = block_now c.remove_same.new.blocks.entries in
    let mid = block_now c.note_unlike.new.blocks.entries in
    let last = block_now c.note_unlike-2.new.blocks.entries in
    let kept = part_now c.remove_own.new.blocks.entries in
    let there = part_now c.note_unlike.new.parts.entries in
    let is_now = part_now c.note_unlike-2.new.parts.entries in
    let new : Whole = record { names = value_now c.remove_names.new.names.entries; inputs = old.inputs; rule = old.rule; blocks = last; bytes = is_now } in
    let did : HasDone d r = subst (λ (k : ChangesData). HasDone k r) (sym c.old.view_is) was in
    let does : HasDone e q = subst (λ (k : ChangesData). HasDone k q) (sym c.new.view_is) is in
    let label : d.label ≡ e.label = ap (λ (k : ChangesData). k.label) c.old.view_is ∙ c.requires.label ∙ sym (ap (λ (k : ChangesData). k.label) c.new.view_is) in
    let events : d.events ≡ e.events = ap (λ (k : ChangesData). k.events) c.old.view_is ∙ c.requires.events ∙ sym (ap (λ (k : ChangesData). k.events) c.new.view_is) in
    let own : All (IsOwnNow k.label s.bytes made) k.events.items = subst (λ (es : List Event). All (IsOwnNow k.label s.bytes made) es) c.deref-2.ensures.value c.in_ok-note_own.ensures.all in
    subst (λ (o : ChangeData). Follows (change_of o) (whole_of new) r q (model.collected s) j) c.self.view_is
    (follows_whole r q (model.collected s) j old new (with_alike s old new r q d e did does label events
    k.events.items i.written.entries k.written.entries made left mid kept there refl refl refl
    c.in_ok-note_own.ensures.noted (recursion_from_All (IsOwnNow k.label s.bytes made) k.events.items own)
    c.remove_same.ensures
    c.in_ok-note_unlike.ensures.noted (recursion_from_All (IsEntryUnlike s.bytes k.label (byte_found k.written.entries) left mid kept there) i.written.entries c.in_ok-note_unlike.ensures.all)
    c.in_ok-note_unlike-2.ensures.noted (recursion_from_All (IsEntryUnlike s.bytes k.label (byte_found i.written.entries) mid last there is_now) k.written.entries c.in_ok-note_unlike-2.ensures.all)
    (λ b p. part_out c.self.inside.parts.entries c.remove_own.new.blocks.entries (nat_eq b.label k.label && binds_in b (map event_of k.events.items)) b p
    (c.remove_own.ensures b ∙ ap (λ (es : List Event). cond (nat_eq b.label k.label && binds_in b (map event_of es)) None (entry_now c.self.inside.parts.entries b)) c.deref-4.ensures.value))
    c.in_ok-note_unlike.ensures.bytes c.in_ok-note_unlike-2.ensures.bytes
    (λ n. c.remove_names.ensures n ∙ ap (λ (es : List Event). cond (is_touched n (map event_of es)) None (old.names n)) c.deref.ensures.value)
    (λ n. refl) refl))
