use Rattle.std.proofs.Common.{[], ◌∷◌, ◌++◌, ap, inl, inr}
use Rattle.nd_script.proofs.lines.Answers.{pushes_same, pushes_trans}
use Rattle.nd_desk.specs.Answers.{type_text}
use Rattle.nd_desk.proofs.answer.push_type.Goals as goal

pub returns-in-Ok : goal.returns-in-Ok
returns-in-Ok g c = inl (pushes_same (ap (λ v. type_text v ++ 10 ∷ []) c.shown.ensures) (pushes_trans c.in-Ok.ensures.pushed c.push_text.ensures))

pub returns-in-Err : goal.returns-in-Err
returns-in-Err g c = inr (rw c.in-Err.ensures.unwritten at c.push_text-in-Err.ensures)
