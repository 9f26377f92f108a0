use Rattle.std.proofs.Common.{◌≡◌, drop}
use Rattle.nd_session.specs.Session.Live.{live}
use Rattle.nd_eval.specs.Choosing.Indexing.{items_over, refusal_in}
use Rattle.nd_eval.proofs.choosing.selections.first_refusal.Given as goal

abbrev pub invariant-loop-item : goal.invariant-loop-item
invariant-loop-item l =
    let bytes = (live l.session).bytes in
    refusal_in (items_over bytes l.fn.items) ≡ refusal_in (items_over bytes (drop l.item-index l.items))
