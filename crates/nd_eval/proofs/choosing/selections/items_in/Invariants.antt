use Rattle.std.proofs.Common.{◌≡◌, drop}
use Rattle.std.specs.List.{All}
use Rattle.nd_model.specs.Indexing.Selected.{HoldsAll}
use Rattle.nd_index.specs.Items.Items as fancy
use Rattle.nd_session.specs.Session.Live.{live}
use Rattle.nd_eval.specs.Choosing.Indexing.{items_over}
use Rattle.nd_eval.proofs.choosing.Indexing.{behind}
use Rattle.nd_eval.proofs.choosing.selections.items_in.Given as goal

abbrev pub invariant-loop-item : goal.invariant-loop-item
invariant-loop-item l =
    let bytes = (live l.session).bytes in
    record {
      same : items_over bytes l.items ≡ behind (fancy.items_of l.found.items) (items_over bytes (drop l.item-index l.items));
      whole : All HoldsAll (fancy.items_of l.found.items);
    }
