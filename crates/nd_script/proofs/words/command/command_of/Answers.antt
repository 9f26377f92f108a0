use Rattle.std.proofs.Common.{rules, sym, ◌∙◌, ap, ◌<◌, length, get_or, ne_eqb}
use Rattle.nd_model.specs.Book.Script.{line_of_words, words_of}
use Rattle.nd_script.proofs.words.Words.{read_line-text, read_line-bytes}
use Rattle.nd_script.proofs.words.command.command_of.Goals as goal

pub returns : goal.returns
returns c =
    let line = c.args.line.now in
    let some : 0 < length line = search rules in
    let other = ne_eqb (get_or line 0 0) 35 c.if-line-eq35.false in
    c.in_ok-command.ensures ∙ ap (λ t. line_of_words (words_of t)) c.in-Ok.ensures.cases.0 ∙ sym (read_line-text line some other c.in-Ok.ensures.cases.1)

pub returns-in_default : goal.returns-in_default
returns-in_default c =
    let line = c.args.line.now in
    let some : 0 < length line = search rules in
    let other = ne_eqb (get_or line 0 0) 35 c.if-line-eq35.false in
    sym (read_line-bytes line some other c.in_default.ensures.cases.0)
