use Rattle.std.proofs.Common.{◌≡◌, ◌∙◌, ap, sym, subst, ⊎_elim}
use Rattle.std.specs.Prelude.{is_ok}
use Rattle.nd_change.specs.Steps.{Follows}
use Rattle.nd_cell.specs.Records.{recorded}
use Rattle.nd_session.specs.Inputs.Values.{given_of, rule_of}
use Rattle.nd_model.specs.Book.Notebook.{world_in}
use Rattle.nd_model.specs.Cells.Session.{collected}
use Rattle.nd_model.specs.Cells.Running.{session_of}
use Rattle.nd_session.specs.Session.Live.{live}
use Rattle.nd_session.specs.Session.Change.{change_of}
use Rattle.nd_notebook.specs.Sharing.{changed_in}
use Rattle.nd_notebook.proofs.kernel.SessionRunnerCellRunner.rerun.Goals as goal

pub returns : goal.returns
returns c =
    let own : change_of c.in_ok-own.own.now ≡ changed_in c.args.change.now = ap change_of (⊎_elim (λ e. e) (λ e. e) c.in_ok-own.ensures.value) ∙ c.in_ok-held.ensures in
    let new : change_of (c.make_mut.follows.lender c.follow.new.change).value ≡ change_of c.follow.new.change = ap change_of (c.make_mut.follows.holds c.follow.new.change (ap is_ok c.in_ok-own.was)) in
    subst (λ d. Follows d (change_of (c.make_mut.follows.lender c.follow.new.change).value) (recorded c.args.before.now) (recorded c.args.made.now) (collected (session_of (live c.args.session.now))) (world_in (record { inputs = given_of c.args._world.now.inputs.entries; rule = rule_of c.args._world.now.rule }))) own
    (subst (λ d. Follows (change_of c.in_ok-own.own.now) d (recorded c.args.before.now) (recorded c.args.made.now) (collected (session_of (live c.args.session.now))) (world_in (record { inputs = given_of c.args._world.now.inputs.entries; rule = rule_of c.args._world.now.rule }))) (sym new) (c.in_ok-follow.ensures _))
