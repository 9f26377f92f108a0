use Rattle.std.proofs.Common.{ap}
use Rattle.nd_model.specs.Book.Script.{value_answer}
use Rattle.nd_script.proofs.lines.Answers.{pushes_same, pushes_trans}
use Rattle.nd_desk.proofs.part.push_choice.Goals as goal

pub returns-clause-pushed : goal.returns-clause-pushed
returns-clause-pushed g c = pushes_same (ap value_answer c.choice_of.ensures) (pushes_trans c.in_ok-push_shown.ensures.pushed c.push_text.ensures)
