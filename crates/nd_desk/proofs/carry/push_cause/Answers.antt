use Rattle.std.proofs.Common.{ap, sym, ◌∙◌, append_assoc}
use Rattle.nd_script.proofs.lines.Answers.{pushes_same, pushes_trans}
use Rattle.std.specs.Prelude.{codes, ◌++◌}
use Rattle.nd_desk.specs.Answers.{cause_text}
use Rattle.nd_desk.specs.Files.{cause_of_kind}
use Rattle.nd_desk.proofs.Carried.{unhad_cause}
use Rattle.nd_desk.proofs.carry.push_cause.Goals as goal

pub returns-in-OutOfMemory : goal.returns-in-OutOfMemory
returns-in-OutOfMemory g c = rw c.in-OutOfMemory.is c.push_text.ensures

pub returns : goal.returns
returns g c =
    let word = c.name.ensures ∙ ap cause_text c.of_kind.ensures in
    let named = ap (λ w. codes "refused " ++ c.args.tried.now ++ w ++ codes "\n") word in
    let cause = cause_text (cause_of_kind c.args.kind) in
    pushes_same (named ∙ ap (λ l. l ++ codes "\n") (append_assoc (codes "refused ") c.args.tried.now cause) ∙ sym (unhad_cause c.args.tried.now c.args.kind c.in_default.not-OutOfMemory))
    (pushes_trans (pushes_trans (pushes_trans c.push_text-2.ensures c.push_text-3.ensures) c.push_text-4.ensures) c.push_text-5.ensures)
