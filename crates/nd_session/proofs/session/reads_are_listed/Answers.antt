use Rattle.nd_session.proofs.session.Listed.{listed}
use Rattle.nd_session.proofs.session.reads_are_listed.Goals as goal

pub returns : goal.returns
returns c = listed
