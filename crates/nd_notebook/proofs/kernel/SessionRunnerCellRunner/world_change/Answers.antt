use Rattle.std.proofs.Common.{sym, subst}
use Rattle.nd_change.specs.Change.{IsOver}
use Rattle.nd_session.specs.Inputs.Values.{given_of, rule_of}
use Rattle.nd_model.specs.Book.Notebook.{world_in}
use Rattle.nd_notebook.proofs.kernel.SessionRunnerCellRunner.world_change.Goals as goal

pub returns-in_ok-new-in-Ok : goal.returns-in_ok-new-in-Ok
returns-in_ok-new-in-Ok c = λ s.
    subst (λ d. IsOver d s (world_in (record { inputs = given_of c.args.old.now.inputs.entries; rule = rule_of c.args.old.now.rule })) s (world_in (record { inputs = given_of c.args.new.now.inputs.entries; rule = rule_of c.args.new.now.rule })))
    (sym c.in_ok-new-in-Ok.ensures) (c.in-Ok.ensures s)
