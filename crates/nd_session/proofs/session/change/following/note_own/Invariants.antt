use Rattle.nd_heap.proofs.Entries.{AllBefore}
use Rattle.nd_session.specs.Session.Change.{IsNoted}
use Rattle.nd_session.specs.Session.Now.{block_now}
use Rattle.nd_session.specs.Session.Live.{live}
use Rattle.nd_session.proofs.session.Carrying.{IsOwnNow}
use Rattle.nd_session.proofs.session.change.following.note_own.Given as goal

abbrev pub invariant-loop-event : goal.invariant-loop-event
invariant-loop-event l = IsNoted (live l.session).bytes (block_now l.fn.blocks.entries) (block_now l.blocks.entries)
    × AllBefore (IsOwnNow l.label (live l.session).bytes (block_now l.blocks.entries)) l.events l.event-index
