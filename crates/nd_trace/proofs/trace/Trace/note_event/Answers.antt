use Rattle.nd_trace.proofs.Touched.{touched_more}
use Rattle.nd_trace.proofs.trace.Trace.note_event.Goals as goal

pub invariant_of-self : goal.invariant_of-self
invariant_of-self c = touched_more c.self.inside.touched.keys c.insert.new.self.keys c.args.name c.self.inside.events.items c.push_reserved.new.self.items c.args.event c.self.invariant
    c.requires.name c.in-Ok.ensures.keys c.push_reserved.ensures.items
