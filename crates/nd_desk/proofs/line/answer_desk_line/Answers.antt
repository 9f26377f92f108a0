use Rattle.nd_commands.specs.Noted.{noted_of}
use Rattle.nd_desk.proofs.Runs.{for_one}
use Rattle.nd_desk.proofs.line.answer_desk_line.Goals as goal

pub returns-in-Some-Try-clause-done : goal.returns-in-Some-Try-clause-done
returns-in-Some-Try-clause-done g c = rw (c.in-Some-Try.is, c.in-Some-Try.field-0-is) (for_one c.continue_try.result _ c.args.ran.now.items c.continue_try.ensures.done)

pub returns-in-Some-EditText-clause-done : goal.returns-in-Some-EditText-clause-done
returns-in-Some-EditText-clause-done g c =
    let held = noted_of c.args.notebook.now c.args.meter.now c.args.ran.now.items in
    rw (c.in-Some-EditText.is, c.in-Some-EditText.field-0-is) (for_one c.answer_gathered_text.result _ held c.answer_gathered_text.ensures.done)
