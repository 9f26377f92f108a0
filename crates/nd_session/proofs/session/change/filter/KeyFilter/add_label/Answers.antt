use Rattle.std.proofs.Common.{ℕ, sym, subst}
use Rattle.std.specs.Prelude.{IsTrue}
use Rattle.nd_model.specs.Cells.Running.{Length}
use Rattle.nd_session.specs.Session.Filter.{covers_byte}
use Rattle.nd_session.proofs.session.Covering.{stays_on}
use Rattle.nd_session.proofs.session.change.filter.KeyFilter.add_label.Goals as goal

pub returns-clause-added : goal.returns-clause-added
returns-clause-added c = λ b own. (
  c.set_whole.ensures.stays (Length b) (c.add_length.ensures.added b own),
  λ p. subst (λ (l : ℕ). IsTrue (covers_byte c.set_whole.new.self l p)) (sym own) (c.set_whole.ensures.set p),
)

pub returns-clause-stays : goal.returns-clause-stays
returns-clause-stays c = stays_on c.args.self.now c.add_length.new.self c.set_whole.new.self c.add_length.ensures.stays c.set_whole.ensures.stays
