use Rattle.nd_model.specs.Cells.Running.{session_of}
use Rattle.nd_model.proofs.Collected.{holds_collected, holds_uncollected}
use Rattle.nd_session.specs.Session.Live.{live}
use Rattle.nd_session.specs.Inputs.Values.{inputs_of, world_of}
use Rattle.nd_cell.specs.Records.{recorded}
use Rattle.nd_notebook.proofs.Sessions.{none_uncollected}
use Rattle.nd_notebook.proofs.kernel.SessionRunnerCellRunner.still_holds.Goals as goal

pub agrees-requires : goal.agrees-requires
agrees-requires c = none_uncollected (recorded c.args.made.now).label (session_of (live c.args.session.now)) c.requires

pub returns : goal.returns
returns c = (
  λ yes. holds_collected (recorded c.args.made.now) (session_of (live c.args.session.now)) (world_of (inputs_of c.args.world.now.inputs.entries) c.args.world.now.rule) (c.agrees.ensures.0 yes),
  λ holds. c.agrees.ensures.1 (holds_uncollected (recorded c.args.made.now) (session_of (live c.args.session.now)) (world_of (inputs_of c.args.world.now.inputs.entries) c.args.world.now.rule) holds),
)
