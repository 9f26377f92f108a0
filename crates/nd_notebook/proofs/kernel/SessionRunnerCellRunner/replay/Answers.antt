use Rattle.std.proofs.Common.{sym, ◌∙◌}
use Rattle.nd_model.specs.Cells.Running.{session_of}
use Rattle.nd_model.proofs.Collected.{holds_uncollected, with_effects-collected}
use Rattle.nd_session.specs.Session.Live.{live}
use Rattle.nd_cell.specs.Records.{recorded}
use Rattle.nd_notebook.proofs.kernel.SessionRunnerCellRunner.replay.Goals as goal

pub replay-requires : goal.replay-requires
replay-requires c = (c.requires.0, holds_uncollected (recorded c.args.made.now) (session_of (live c.args.session.now)) c.requires.0 c.requires.1)

pub returns-in-Ok : goal.returns-in-Ok
returns-in-Ok c = c.in-Ok.ensures ∙ sym (with_effects-collected (recorded c.args.made.now).label (recorded c.args.made.now).effects (session_of (live c.args.session.now)))
