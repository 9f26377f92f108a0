use Rattle.std.proofs.Common.{rules}
use Rattle.nd_script.proofs.lines.Answers.{pushes_same, pushes_trans}
use Rattle.nd_commands.proofs.answer.push_result_answer.Goals as goal

pub returns : goal.returns
returns g c =
    pushes_same (search rules)
    (pushes_trans (pushes_trans (pushes_trans (pushes_trans c.push_count_line.ensures c.push_text.ensures) c.push_refusal.ensures) c.push_saves.ensures) c.push_text-2.ensures)
