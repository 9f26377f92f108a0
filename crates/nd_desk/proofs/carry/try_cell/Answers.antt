use Rattle.std.proofs.Common.{ap}
use Rattle.nd_script.proofs.lines.Answers.{pushes_same}
use Rattle.nd_desk.specs.Answers.{trial_answer}
use Rattle.nd_desk.proofs.Carried.{tried_out}
use Rattle.nd_desk.proofs.carry.try_cell.Goals as goal

pub returns-in-Ok : goal.returns-in-Ok
returns-in-Ok g c = λ held.
    tried_out c.try_cell.result c.args.at c.args.source.now c.args.notebook.now c.args.meter.now c.try_cell.new.meter held _ _
    c.try_cell.ensures.told c.try_cell.ensures.counts (rw c.in-Ok.is (pushes_same (ap trial_answer c.result.ensures) c.push_trial.ensures))

pub returns-in-Err : goal.returns-in-Err
returns-in-Err g c = λ held.
    tried_out c.try_cell.result c.args.at c.args.source.now c.args.notebook.now c.args.meter.now c.try_cell.new.meter held _ _
    c.try_cell.ensures.told c.try_cell.ensures.counts (rw c.in-Err.is c.push_edit_refusal.ensures)
