use Rattle.std.proofs.Common.{ap}
use Rattle.nd_session.specs.Session.Change.{change_of}
use Rattle.nd_notebook.proofs.shared_change.SharedChange.new.Goals as goal

pub returns : goal.returns
returns c = ap change_of c.in_ok-held.ensures.ok
