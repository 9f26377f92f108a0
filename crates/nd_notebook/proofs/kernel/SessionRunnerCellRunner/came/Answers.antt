use Rattle.std.proofs.Common.{◌≡◌, ◌∙◌, ap, sym, subst, ⊎_elim}
use Rattle.std.specs.Prelude.{is_ok}
use Rattle.nd_change.specs.Steps.{Comes}
use Rattle.nd_cell.specs.Records.{recorded}
use Rattle.nd_model.specs.Cells.Session.{collected}
use Rattle.nd_model.specs.Cells.Running.{session_of}
use Rattle.nd_session.specs.Session.Live.{live}
use Rattle.nd_session.specs.Session.Change.{change_of}
use Rattle.nd_notebook.specs.Sharing.{changed_in}
use Rattle.nd_notebook.proofs.kernel.SessionRunnerCellRunner.came.Goals as goal

pub returns : goal.returns
returns c =
    let own : change_of c.in_ok-own.own.now ≡ changed_in c.args.change.now = ap change_of (⊎_elim (λ e. e) (λ e. e) c.in_ok-own.ensures.value) ∙ c.in_ok-held.ensures in
    let new : change_of (c.make_mut.follows.lender c.come.new.change).value ≡ change_of c.come.new.change = ap change_of (c.make_mut.follows.holds c.come.new.change (ap is_ok c.in_ok-own.was)) in
    subst (λ d. Comes d (change_of (c.make_mut.follows.lender c.come.new.change).value) (recorded c.args.made.now) (collected (session_of (live c.args.session.now)))) own
    (subst (λ d. Comes (change_of c.in_ok-own.own.now) d (recorded c.args.made.now) (collected (session_of (live c.args.session.now)))) (sym new) c.in_ok-come.ensures)
