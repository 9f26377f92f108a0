use Rattle.nd_heap.specs.Values.{base_of}
use Rattle.nd_session.specs.Session.Now.{entry_now}
use Rattle.nd_session.proofs.session.Dropping.{own_out}
use Rattle.nd_session.proofs.session.Matching.{base_removed}
use Rattle.nd_session.proofs.session.change.keeping.remove_own_base.Goals as goal

pub returns-then-base-label : goal.returns-then-base-label
returns-then-base-label g c = own_out c.args.label (entry_now c.args.blocks.now.entries) (entry_now c.swap_remove.new.self.entries) (base_of c.args.base) c.if-base-label.true
    (λ b. base_removed (λ v. v) c.args.base c.args.blocks.now.entries c.swap_remove.new.self.entries c.swap_remove.ensures.updates.0 b)
