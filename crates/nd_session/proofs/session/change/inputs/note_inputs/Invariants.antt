use Rattle.nd_heap.proofs.Entries.{AllBefore}
use Rattle.nd_session.specs.Inputs.Values.{inputs_of}
use Rattle.nd_session.specs.Session.Change.{IsNoted}
use Rattle.nd_session.specs.Session.Now.{input_now}
use Rattle.nd_session.proofs.session.Giving.{IsSameOut}
use Rattle.nd_session.proofs.session.change.inputs.note_inputs.Given as goal

abbrev pub invariant-loop-i : goal.invariant-loop-i
invariant-loop-i l = IsNoted (inputs_of l.new.entries) (input_now l.fn.changed.entries) (input_now l.changed.entries)
    × AllBefore (IsSameOut (inputs_of l.old.entries) (inputs_of l.new.entries) (input_now l.changed.entries)) l.names.entries l.i
