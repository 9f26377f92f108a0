use Rattle.nd_session.specs.Session.Now.{part_now}
use Rattle.nd_session.proofs.session.Dropping.{AreLaid}
use Rattle.nd_session.proofs.session.change.keeping.overwrite_parts.Given as goal

abbrev pub invariant-loop-i : goal.invariant-loop-i
invariant-loop-i l = AreLaid l.written.entries l.i (part_now l.fn.parts.entries) (part_now l.parts.entries)
