use Rattle.std.proofs.Common.{refl, subst}
use Rattle.nd_change.specs.Steps.{Comes}
use Rattle.nd_schedule.proofs.schedule.sweep.run_new.Goals as goal

pub returns-clause-after : goal.returns-clause-after
returns-clause-after g c = c.in_ok-new.ensures.after

pub returns-clause-changed : goal.returns-clause-changed
returns-clause-changed g c = refl

pub returns-clause-comes : goal.returns-clause-comes
returns-clause-comes g c =
    subst (λ r. Comes (g.C.CellRunner.change_of c.args.state.now.change) (g.C.CellRunner.change_of c.came.new.change) (g.C.CellRunner.recorded r) (g.C.CellRunner.session_of c.run_cell.new.session)) c.deref.ensures c.in_ok-came.ensures

pub returns-clause-counted : goal.returns-clause-counted
returns-clause-counted g c = c.run_cell.ensures.counted

pub returns-clause-made : goal.returns-clause-made
returns-clause-made g c = c.in_ok-new.ensures.made

pub returns-clause-since : goal.returns-clause-since
returns-clause-since g c = refl

pub returns-clause-word : goal.returns-clause-word
returns-clause-word g c = c.change_word.ensures

pub returns-clause-worded : goal.returns-clause-worded
returns-clause-worded g c = c.in_ok-new.ensures.worded

pub returns-in_err-came-clause-counted : goal.returns-in_err-came-clause-counted
returns-in_err-came-clause-counted g c = c.run_cell.ensures.counted

pub returns-in_err-new-clause-counted : goal.returns-in_err-new-clause-counted
returns-in_err-new-clause-counted g c = c.run_cell.ensures.counted
