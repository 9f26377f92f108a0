use Rattle.nd_session.proofs.session.Filters.{all_covered}
use Rattle.nd_session.proofs.session.change.filter.KeyFilter.of_all.Goals as goal

pub returns : goal.returns
returns c = λ k. all_covered k
