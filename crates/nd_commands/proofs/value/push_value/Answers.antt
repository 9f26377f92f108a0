use Rattle.std.proofs.Common.{[], ◌∷◌, ◌++◌, ap, inl, inr}
use Rattle.nd_model.specs.Book.Script.{shown_text}
use Rattle.nd_script.proofs.lines.Answers.{pushes_same, pushes_trans}
use Rattle.nd_commands.proofs.value.push_value.Goals as goal

pub returns-in-Ok : goal.returns-in-Ok
returns-in-Ok g c = inl (pushes_same (ap (λ v. shown_text v ++ 10 ∷ []) c.shown.ensures) (pushes_trans c.in-Ok.ensures.pushed c.push_text.ensures))

pub returns-in-Err : goal.returns-in-Err
returns-in-Err g c = inr (rw c.in-Err.ensures.unwritten at c.push_text-in-Err.ensures)
