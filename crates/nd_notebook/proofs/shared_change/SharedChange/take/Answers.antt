use Rattle.std.proofs.Common.{◌∙◌, ap}
use mathlib.Core.Path.{fun_ext}
use Rattle.nd_session.specs.Session.Change.{change_of}
use Rattle.nd_notebook.specs.Sharing.{held_change}
use Rattle.nd_notebook.proofs.shared_change.SharedChange.take.Goals as goal

pub returns-in_ok-new-in-None : goal.returns-in_ok-new-in-None
returns-in_ok-new-in-None c = ap change_of c.in_ok-new-in-None.ensures.ok ∙ fun_ext c.new.ensures ∙ ap held_change c.in-None.ensures.value
