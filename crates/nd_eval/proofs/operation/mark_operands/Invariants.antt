use Rattle.std.proofs.Common.{◌≡◌, drop}
use Rattle.nd_session.specs.Session.Live.{live}
use Rattle.nd_eval.specs.Uses.{all_marked}
use Rattle.nd_eval.proofs.operation.mark_operands.Given as goal

abbrev pub invariant-loop-value : goal.invariant-loop-value
invariant-loop-value l = all_marked (drop l.value-index l.values) (live l.session) ≡ all_marked l.values (live l.fn.session)
