use Rattle.std.proofs.Common.{◌∙◌, ap}
use Rattle.nd_model.specs.Cells.Session.{bind}
use Rattle.nd_heap.specs.Values.{entries_of}
use Rattle.nd_heap.proofs.NameLists.{entries-insert}
use Rattle.nd_session.proofs.session.Ordering.{unit_at}
use Rattle.nd_session.proofs.session.order.note_bound.Goals as goal

pub returns : goal.returns
returns c =
    let es = c.args.names.now.entries in
    ap (entries_of unit_at) c.in_ok-insert.ensures.entries ∙ entries-insert unit_at c.in_ok-key.key tt es ∙ ap (λ n. bind n tt (entries_of unit_at es)) c.in_ok-key.ensures.cases
