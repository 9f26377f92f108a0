use Rattle.std.proofs.Common.{refl, ap, subst, ◌∙◌, arith}
use Rattle.nd_model.specs.Book.Notebook.{world_in}
use Rattle.nd_change.specs.Steps.{Follows}
use Rattle.nd_schedule.specs.Schedule.Sweep.{change_at, fit_at}
use Rattle.nd_schedule.proofs.schedule.Visiting.{changed_more, fit_more}
use Rattle.nd_schedule.proofs.schedule.sweep.run_again.Goals as goal

pub returns-clause-fit : goal.returns-clause-fit
returns-clause-fit g c = λ n lt h.
    fit_more g.C.CellRunner.covers (λ c'. fit_at c'.place (g.C.CellRunner.recorded c'.record.value) c'.word) n c.args.state.now.changed.items c.push.new.self.items _ c.in_ok-push.ensures.items h lt c.in_ok-record.ensures.worded

pub overflow_add-state : goal.overflow_add-state
overflow_add-state g c = omega (arith, c.requires.fits)

pub returns-clause-after : goal.returns-clause-after
returns-clause-after g c = c.in_ok-record.ensures.after

pub returns-clause-changed : goal.returns-clause-changed
returns-clause-changed g c =
    changed_more (λ c'. change_at c'.place (g.C.CellRunner.recorded c'.record.value)) c.args.state.now.changed.items c.push.new.self.items _ _ c.in_ok-push.ensures.items (ap (change_at c.args.i) c.in_ok-record.ensures.made)

pub returns-clause-counted : goal.returns-clause-counted
returns-clause-counted g c = c.run_cell.ensures.counted

pub returns-clause-follows : goal.returns-clause-follows
returns-clause-follows g c =
    subst (λ r. Follows (g.C.CellRunner.change_of c.args.state.now.change) (g.C.CellRunner.change_of c.rerun.new.change) (g.C.CellRunner.recorded c.args.before.now) r (g.C.CellRunner.session_of c.run_cell.new.session) (world_in (g.C.CellRunner.given c.args.world.now)))
    (ap g.C.CellRunner.recorded c.deref.ensures ∙ c.in_ok-record.ensures.made) c.in_ok-rerun.ensures

pub returns-clause-since : goal.returns-clause-since
returns-clause-since g c = refl

pub returns-clause-word : goal.returns-clause-word
returns-clause-word g c = c.change_word.ensures

pub returns-in_err-push-clause-counted : goal.returns-in_err-push-clause-counted
returns-in_err-push-clause-counted g c = c.run_cell.ensures.counted

pub returns-in_err-record-clause-counted : goal.returns-in_err-record-clause-counted
returns-in_err-record-clause-counted g c = c.run_cell.ensures.counted

pub returns-in_err-rerun-clause-counted : goal.returns-in_err-rerun-clause-counted
returns-in_err-rerun-clause-counted g c = c.run_cell.ensures.counted
