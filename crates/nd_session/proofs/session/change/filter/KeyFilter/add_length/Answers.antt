use Rattle.std.proofs.Common.{◌%◌, ℕ, sym, subst}
use Rattle.std.specs.Prelude.{IsTrue}
use Rattle.nd_session.specs.Session.Filter.{has_bit}
use Rattle.nd_session.proofs.session.change.filter.KeyFilter.add_length.Goals as goal

pub returns-clause-added : goal.returns-clause-added
returns-clause-added c = λ b own. subst (λ (l : ℕ). IsTrue (has_bit c.set_key.new.self.keys (l % 256))) (sym own) c.set_key.ensures.set
