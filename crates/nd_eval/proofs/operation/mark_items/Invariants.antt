use Rattle.std.proofs.Common.{◌≡◌, drop}
use Rattle.nd_session.specs.Session.Live.{live}
use Rattle.nd_eval.specs.Uses.{items_marked}
use Rattle.nd_eval.proofs.operation.mark_items.Given as goal

abbrev pub invariant-loop-item : goal.invariant-loop-item
invariant-loop-item l = items_marked l.fn.items (live l.fn.session) ≡ items_marked (drop l.item-index l.items) (live l.session)
