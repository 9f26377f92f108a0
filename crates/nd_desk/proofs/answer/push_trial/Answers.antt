use Rattle.std.proofs.Common.{rules}
use Rattle.nd_script.proofs.lines.Answers.{pushes_same, pushes_trans}
use Rattle.nd_desk.proofs.answer.push_trial.Goals as goal

pub returns : goal.returns
returns g c =
    pushes_same (search rules)
    (pushes_trans (pushes_trans (pushes_trans (pushes_trans c.push_count_line.ensures c.push_text.ensures) c.push_refusal.ensures) c.push_files.ensures) c.push_text-2.ensures)
