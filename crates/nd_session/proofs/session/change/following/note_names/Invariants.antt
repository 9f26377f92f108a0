use Rattle.nd_heap.proofs.Entries.{AllBefore}
use Rattle.nd_model.specs.Cells.Session.{lookup}
use Rattle.nd_session.specs.Session.Change.{IsNoted}
use Rattle.nd_session.specs.Session.Now.{value_now}
use Rattle.nd_session.specs.Session.Live.{live}
use Rattle.nd_session.proofs.session.Carrying.{IsNameNow}
use Rattle.nd_session.proofs.session.change.following.note_names.Given as goal

abbrev pub invariant-loop-event : goal.invariant-loop-event
invariant-loop-event l = IsNoted (λ n. lookup n (live l.session).names) (value_now l.fn.names.entries) (value_now l.names.entries)
    × AllBefore (IsNameNow (λ n. lookup n (live l.session).names) (value_now l.names.entries)) l.events l.event-index
