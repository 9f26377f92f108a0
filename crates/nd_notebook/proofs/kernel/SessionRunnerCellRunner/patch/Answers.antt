use Rattle.std.proofs.Common.{◌∙◌, ap, sym, subst}
use mathlib.Core.Path.{fun_ext}
use Rattle.nd_model.specs.Cells.Session.{collected}
use Rattle.nd_model.specs.Cells.Running.{session_of}
use Rattle.nd_change.specs.Steps.{IsPutOver}
use Rattle.nd_session.specs.Session.Change.{change_of}
use Rattle.nd_session.specs.Session.Live.{live}
use Rattle.nd_notebook.specs.Sharing.{held_change}
use Rattle.nd_notebook.proofs.kernel.SessionRunnerCellRunner.patch.Goals as goal

pub returns-in_ok-patch-in-Some-clause-over : goal.returns-in_ok-patch-in-Some-clause-over
returns-in_ok-patch-in-Some-clause-over c = λ could.
    subst (λ d. IsPutOver d (collected (session_of (live c.args.session.now))) (collected (session_of (live c.patch.new.session))))
    (ap change_of c.as_ref.ensures ∙ ap held_change (sym c.in-Some.is)) (c.in_ok-patch-in-Some.ensures.over could)

pub returns-in_ok-patch-in-None-clause-over : goal.returns-in_ok-patch-in-None-clause-over
returns-in_ok-patch-in-None-clause-over c = λ could.
    subst (λ d. IsPutOver d (collected (session_of (live c.args.session.now))) (collected (session_of (live c.patch-in-None-2.new.session))))
    (fun_ext c.new.ensures ∙ ap held_change (sym c.in-None.is)) (c.in_ok-patch-in-None.ensures.over could)
