use Rattle.nd_heap.specs.Contents.{blocks_of}
use Rattle.nd_heap.specs.Live.{bytes_at}
use Rattle.nd_model.specs.Arrays.Value as values
use Rattle.nd_session.specs.Session.Change.{LosesSame}
use Rattle.nd_session.specs.Session.Now.{block_now}
use Rattle.nd_session.proofs.session.change.matching.remove_same.Given as goal

abbrev pub invariant-loop-event : goal.invariant-loop-event
invariant-loop-event l = (b : values.Base) → LosesSame l.label (bytes_at (blocks_of l.one.entries)) (bytes_at (blocks_of l.other.entries)) (block_now l.fn.blocks.entries) (block_now l.blocks.entries) b
