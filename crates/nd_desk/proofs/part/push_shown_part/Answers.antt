use Rattle.std.proofs.Common.{ap, subst, sym, ◌∙◌}
use Rattle.std.specs.Prelude.{OnOk}
use Rattle.nd_commands.specs.Value.{array_of}
use Rattle.nd_index.specs.Basic.Items.{items_of}
use Rattle.nd_notebook.specs.Queries.{shown_of}
use Rattle.nd_script.specs.Lines.Answers.{Pushes}
use Rattle.nd_desk.specs.Answers.{part_answer}
use Rattle.nd_desk.specs.Lines.{items_in}
use Rattle.nd_desk.specs.Parts.{part_of}
use Rattle.nd_desk.proofs.part.push_shown_part.Goals as goal

pub returns-in_ok-items-in-Array-clause-pushed : goal.returns-in_ok-items-in-Array-clause-pushed
returns-in_ok-items-in-Array-clause-pushed g c =
    let elements = c.in-Array.elements in
    let items = ap items_of c.deref.ensures.value ∙ c.in_ok-items-in-Array.ensures in
    let same = ap (λ is. part_answer (part_of is (array_of elements))) items ∙ ap (λ v. part_answer (part_of (items_in c.args.index.now) (shown_of v))) (sym c.in-Array.is) in
    subst (λ text. OnOk c.push_array_part.result (Pushes (g.O.AnswerWrite.state c.args.out.now) text (g.O.AnswerWrite.state c.push_array_part.new.out))) same c.push_array_part.ensures.pushed
