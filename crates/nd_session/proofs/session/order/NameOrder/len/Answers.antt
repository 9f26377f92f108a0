use Rattle.std.proofs.Common.{◌∙◌, ℕ, List, length, sym, ap}
use Rattle.nd_session.proofs.session.Ordering.{length-order}
use Rattle.nd_session.proofs.session.order.NameOrder.len.Goals as goal

pub returns : goal.returns
returns c = c.len.ensures.len ∙ sym (length-order c.self.inside.names.entries) ∙ ap (λ (ns : List (List ℕ)). length ns) c.self.view_is
