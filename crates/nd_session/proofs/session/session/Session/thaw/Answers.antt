use Rattle.std.proofs.Common.{◌∙◌, ap}
use Rattle.nd_session.specs.Session.Kept.{thawed}
use Rattle.nd_session.proofs.session.session.Session.thaw.Goals as goal

pub returns : goal.returns
returns c = c.resume.ensures ∙ ap thawed c.in_ok-version.ensures
