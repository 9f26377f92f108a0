use Rattle.std.proofs.Common.{◌≡◌, ◌∙◌, ap, sym, subst, ⊎_elim}
use Rattle.std.specs.Prelude.{is_ok}
use Rattle.nd_change.specs.Steps.{Keeps}
use Rattle.nd_cell.specs.Records.{recorded}
use Rattle.nd_session.specs.Session.Change.{change_of}
use Rattle.nd_notebook.specs.Sharing.{changed_in}
use Rattle.nd_notebook.proofs.kernel.SessionRunnerCellRunner.keep.Goals as goal

pub returns : goal.returns
returns c =
    let own : change_of c.in_ok-own.own.now ≡ changed_in c.args.change.now = ap change_of (⊎_elim (λ e. e) (λ e. e) c.in_ok-own.ensures.value) ∙ c.in_ok-held.ensures in
    let new : change_of (c.make_mut.follows.lender c.keep.new.change).value ≡ change_of c.keep.new.change = ap change_of (c.make_mut.follows.holds c.keep.new.change (ap is_ok c.in_ok-own.was)) in
    subst (λ d. Keeps d (change_of (c.make_mut.follows.lender c.keep.new.change).value) (recorded c.args.made.now)) own
    (subst (λ d. Keeps (change_of c.in_ok-own.own.now) d (recorded c.args.made.now)) (sym new) c.in_ok-keep.ensures.keeps)
