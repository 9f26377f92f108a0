use Rattle.nd_heap.proofs.Entries.{AllBefore}
use Rattle.nd_session.proofs.session.Agreeing.{IsInputFound}
use Rattle.nd_session.specs.Inputs.Values.{inputs_of}
use Rattle.nd_session.proofs.session.reads.have_same_inputs.Given as goal

abbrev pub invariant-loop-i : goal.invariant-loop-i
invariant-loop-i l = AllBefore (IsInputFound (inputs_of l.inputs.entries)) l.reads.entries l.i
