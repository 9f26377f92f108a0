use Rattle.std.proofs.Common.{subst, List}
use Rattle.std.specs.Prelude.{IsTrue}
use Rattle.std.specs.List.{All}
use Rattle.std.proofs.lemmas.List.Elements.{recursion_from_All}
use Rattle.nd_change.specs.Steps.{IsWordOf}
use Rattle.nd_heap.specs.Contents.{blocks_of}
use Rattle.nd_heap.specs.declared.value.Base.{Base}
use Rattle.nd_model.specs.Cells.Running as running
use Rattle.nd_session.specs.declared.session.found.FoundBytes.{FoundBytes}
use Rattle.nd_session.specs.Session.Change.{run_in}
use Rattle.nd_session.specs.Session.Changes.{ChangesData}
use Rattle.nd_session.specs.Session.Filter.{CoversFound, FilterData, covers}
use Rattle.nd_session.specs.Session.Found.{bytes_of}
use Rattle.nd_session.proofs.session.Covering.{did_covered, label_stays, rec_weaker, stays_on}
use Rattle.nd_session.proofs.session.change.filter.KeyFilter.of_run.Goals as goal
use Rattle.nd_trace.specs.declared.trace.Event.{Event}
use Rattle.nd_trace.specs.Events.{event_of, name_of_event}

abbrev IsTouched : FilterData → Event → Type 0
IsTouched ws e = IsTrue (covers ws (running.Name (name_of_event (event_of e))))

abbrev IsWritten : FilterData → Base × FoundBytes → Type 0
IsWritten ws e = CoversFound ws e.0.label (bytes_of e.1)

pub returns : goal.returns
returns c =
    let i = c.changes.inside in
    let one = c.add_reads.new.filter in
    let two = c.add_label.new.self in
    let three = c.add_events.new.filter in
    let four = c.add_found.new.filter in
    let last = c.add_found.ensures.stays in
    let two_on = stays_on two three four c.add_events.ensures.stays last in
    let one_on = stays_on one two four c.add_label.ensures.stays two_on in
    let touched : All (IsTouched three) i.events.items = subst (λ (es : List Event). All (IsTouched three) es) c.deref.ensures.value c.add_events.ensures.added in
    subst (λ (d : ChangesData). IsWordOf covers four (run_in c.args.reads.now d)) c.changes.view_is (record {
      reads = λ k there. one_on k (c.add_reads.ensures.added k there);
      does = did_covered c.args.reads.now i.label i.next i.events.items i.written.entries (blocks_of i.blocks.entries) four
          (rec_weaker (IsTouched three) (IsTouched four) (λ e h. last (running.Name (name_of_event (event_of e))) h) i.events.items (recursion_from_All (IsTouched three) i.events.items touched))
          (label_stays two four i.label two_on c.add_label.ensures.added)
          (recursion_from_All (IsWritten four) i.written.entries c.add_found.ensures.added);
    })
