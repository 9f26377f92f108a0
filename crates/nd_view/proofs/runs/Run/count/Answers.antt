use Rattle.nd_view.proofs.RunPlaces.{count_of}
use Rattle.nd_view.proofs.runs.Run.count.Goals as goal

pub returns-clause-value : goal.returns-clause-value
returns-clause-value c = count_of c.self.inside c.self.invariant c.args.self.now c.self.view_is
