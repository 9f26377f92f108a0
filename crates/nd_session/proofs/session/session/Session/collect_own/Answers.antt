use Rattle.std.proofs.Common.{◌∙◌, nat_eq, sym, subst}
use Rattle.nd_model.specs.Cells.Session as model
use Rattle.nd_session.specs.Session.Intact.{AllLie}
use Rattle.nd_heap.specs.Live.{bytes_at}
use Rattle.nd_session.proofs.session.Intact.{kept_held, with_same}
use Rattle.nd_session.proofs.session.session.Session.collect_own.Goals as goal

pub invariant_of-self-2 : goal.invariant_of-self-2
invariant_of-self-2 c =
    let label = c.self.inside.trace.label in
    let names = c.self.inside.heap.names in
    let old = bytes_at c.self.inside.heap.blocks in
    let new = bytes_at c.collect_label.new.self.blocks in
    subst (λ (ns : model.Names). AllLie label c.self.inside.next new ns) (sym c.collect_label.ensures.names)
    (with_same label c.self.inside.next (record { names = names; bytes = old }) new
    (λ b held. c.in_ok-collect_label.ensures.ok b ∙ kept_held (nat_eq b.label c.label.result) (model.is_held b names) (old b) held) c.self.invariant)
