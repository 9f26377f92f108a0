use Rattle.std.proofs.Common.{◌≡◌, ◌∙◌, Some, ap, rules, sym}
use Rattle.nd_commands.specs.Noted.{noted_of}
use Rattle.nd_commands.specs.Source as texts
use Rattle.nd_model.specs.Book.Script.{Between}
use Rattle.nd_desk.specs.Lines.{command_of, line_of}
use Rattle.nd_desk.specs.Words.{Line, Plainly, Whole, read_word}
use Rattle.nd_desk.proofs.Carried.{word_out}
use Rattle.nd_desk.proofs.Plainly.{no_word, plainly_led}
use Rattle.nd_desk.proofs.line.answer_command.Goals as goal

pub returns-in_ok-open-in-None-clause-done : goal.returns-in_ok-open-in-None-clause-done
returns-in_ok-open-in-None-clause-done g c =
    let text = c.in_ok-open-in-None.open in
    let old = noted_of c.args.notebook.now c.args.meter.now c.args.ran.now.items in
    let new = noted_of c.answer_line.new.notebook c.answer_line.new.meter c.answer_line.new.ran.items in
    plainly_led c.args.line.now c.plain.result text (Plainly Between) old new _ _ c.plain.ensures
    (no_word (texts.stage_of text) c.args.line.now old new _ _ (sym c.in-None.ensures) c.in_ok-open-in-None.ensures.done)

pub returns-in-Some-Word-clause-done : goal.returns-in-Some-Word-clause-done
returns-in-Some-Word-clause-done g c =
    word_out c.args.line.now (command_of c.in-Some-Word.word) _ _ _ _ (ap (λ l. Some (line_of l)) (sym c.in-Some-Word.field-0-is) ∙ c.in-Some-Word.ensures) c.answer_word.ensures
