use Rattle.std.proofs.Common.{ap}
use Rattle.nd_model.specs.Cells.Session.{collected}
use Rattle.nd_model.specs.Cells.Running.{Running, session_of}
use Rattle.nd_notebook.proofs.kernel.SessionRunnerCellRunner.empty.Goals as goal

pub returns : goal.returns
returns c = ap (λ (r : Running). collected (session_of r)) c.new.ensures
