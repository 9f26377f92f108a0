use Rattle.nd_model.specs.Grammar.Reading.{reading}
use Rattle.nd_model.specs.Cells.Running.{session_of}
use Rattle.nd_session.specs.Session.Live.{live}
use Rattle.nd_session.specs.Inputs.Values.{inputs_of, world_of}
use Rattle.nd_cell.specs.Records.{recorded}
use Rattle.nd_notebook.proofs.Sessions.{after_over, made_over, none_uncollected}
use Rattle.nd_notebook.proofs.kernel.SessionRunnerCellRunner.run.Goals as goal

pub run_cell-requires : goal.run_cell-requires
run_cell-requires c = none_uncollected c.args.label (session_of (live c.args.session.now)) c.requires

pub returns-in-Ok-clause-made : goal.returns-in-Ok-clause-made
returns-in-Ok-clause-made c =
    made_over c.args.label (reading c.args.text.now) (world_of (inputs_of c.args.world.now.inputs.entries) c.args.world.now.rule) (session_of (live c.args.session.now)) (recorded c.in-Ok.made) c.in-Ok.ensures.recorded

pub returns-in-Ok-clause-after : goal.returns-in-Ok-clause-after
returns-in-Ok-clause-after c =
    after_over c.args.label (reading c.args.text.now) (world_of (inputs_of c.args.world.now.inputs.entries) c.args.world.now.rule) (session_of (live c.args.session.now)) _ c.in-Ok.ensures.after
