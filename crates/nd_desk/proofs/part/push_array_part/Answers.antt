use Rattle.std.proofs.Common.{◌≡◌, ℕ, ◌<◌, Ok, Err, get_or, sym, ap, subst, ◌∙◌, arith, rules}
use Rattle.std.specs.Prelude.{OnOk}
use Rattle.nd_model.specs.Book.Script.{refused_line, value_answer}
use Rattle.nd_model.specs.Indexing.Index.{choice_of}
use Rattle.nd_model.specs.Indexing.Selecting.{select}
use Rattle.nd_model.specs.Text.FaultText.{fault_text}
use Rattle.nd_index.specs.Basic.Faults.{fault_of, given}
use Rattle.nd_index.specs.Basic.Items.{items_of}
use Rattle.nd_script.specs.Lines.Answers.{Pushes}
use Rattle.nd_script.proofs.lines.Answers.{pushes_same}
use Rattle.nd_ufunc.proofs.loops.Ranges.{in_range}
use Rattle.nd_desk.specs.Answers.{part_answer}
use Rattle.nd_desk.specs.Chosen.{shown_in}
use Rattle.nd_desk.proofs.Parts.{chosen_part, refused_part}
use Rattle.nd_desk.proofs.part.push_array_part.Goals as goal

pub returns-in-Ok-clause-pushed : goal.returns-in-Ok-clause-pushed
returns-in-Ok-clause-pushed g c =
    let view = c.args.view.now in
    let block = c.args.block.now in
    let found = c.in-Ok.found in
    let items = items_of c.args.items.now in
    let selects : select items view ≡ Ok found = sym c.in_ok-found.ensures ∙ ap given c.in-Ok.is in
    let small : (i : ℕ) → get_or block i 0 < 256 = λ i. omega (arith, c.type_inv.block i) in
    let part = chosen_part items view block found (sym c.count-count.ensures.value ∙ c.count-count.ensures.elements) (λ e p. in_range e block small p) selects in
    let same = ap (λ b. value_answer (shown_in block (choice_of b found.shape found))) c.are_numbers.ensures ∙ sym (ap part_answer part) in
    subst (λ text. OnOk c.push_choice-done.result (Pushes (g.O.AnswerWrite.state c.args.out.now) text (g.O.AnswerWrite.state c.push_choice-done.new.out))) same c.push_choice-done.ensures.pushed

pub returns-in-Err-clause-pushed : goal.returns-in-Err-clause-pushed
returns-in-Err-clause-pushed g c =
    let items = items_of c.args.items.now in
    let fault = fault_of c.in-Err.fault in
    let selects : select items c.args.view.now ≡ Err fault = sym c.in_ok-found.ensures ∙ ap given c.in-Err.is in
    let part = refused_part items c.args.view.now c.args.block.now fault selects in
    pushes_same (ap (λ f. refused_line (fault_text f)) c.refusal_of.ensures ∙ sym (ap part_answer part)) c.push_refused.ensures
