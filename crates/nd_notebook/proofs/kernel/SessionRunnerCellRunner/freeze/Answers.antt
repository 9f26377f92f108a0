use Rattle.std.proofs.Common.{ap, ◌∙◌}
use Rattle.nd_model.specs.Cells.Session.{collected}
use Rattle.nd_model.specs.Cells.Running.{session_of}
use Rattle.nd_session.specs.Session.Kept.{version_of}
use Rattle.nd_session.specs.Session.Live.{live}
use Rattle.nd_notebook.proofs.Sessions.{collected_twice}
use Rattle.nd_notebook.proofs.kernel.SessionRunnerCellRunner.freeze.Goals as goal

pub returns-in_ok-new-in-Ok-clause-kept : goal.returns-in_ok-new-in-Ok-clause-kept
returns-in_ok-new-in-Ok-clause-kept c = ap (λ v. collected (version_of v)) c.in_ok-new-in-Ok.ensures.ok ∙ ap collected c.in-Ok.ensures.session ∙ collected_twice (session_of (live c.args.session.now))
