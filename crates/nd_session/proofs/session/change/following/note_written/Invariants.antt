use Rattle.nd_heap.proofs.Entries.{AllBefore}
use Rattle.nd_session.specs.Session.Change.{AreBytesNoted, IsNoted}
use Rattle.nd_session.specs.Session.Live.{live}
use Rattle.nd_session.specs.Session.Now.{block_now, part_now}
use Rattle.nd_session.proofs.session.Carrying.{IsEntryNow}
use Rattle.nd_session.proofs.session.change.following.note_written.Given as goal

abbrev pub invariant-loop-i : goal.invariant-loop-i
invariant-loop-i l = IsNoted (live l.session).bytes (block_now l.fn.blocks.entries) (block_now l.blocks.entries)
    × AreBytesNoted (live l.session).bytes (part_now l.fn.parts.entries) (part_now l.parts.entries)
    × AllBefore (IsEntryNow (live l.session).bytes l.label l.beside (block_now l.blocks.entries) (part_now l.parts.entries)) l.written.entries l.i
