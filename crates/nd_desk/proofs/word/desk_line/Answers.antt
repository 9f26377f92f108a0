use Rattle.std.proofs.Common.{sym, ap, ◌∙◌}
use Rattle.nd_model.specs.Book.Script.{words_of}
use Rattle.nd_desk.specs.Words.{line_of_words}
use Rattle.nd_desk.proofs.Lines.{text_word, other_word}
use Rattle.nd_desk.proofs.word.desk_line.Goals as goal

pub returns : goal.returns
returns c = c.text_line.ensures ∙ ap (λ t. line_of_words (words_of t)) c.in-Ok.ensures.cases.0 ∙ sym (text_word c.args.line.now c.in-Ok.ensures.cases.1)

pub returns-in_default : goal.returns-in_default
returns-in_default c = sym (other_word c.args.line.now c.in_default.ensures.cases.0)
