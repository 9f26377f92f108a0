use Rattle.std.proofs.Common.{sym, ◌∙◌}
use Rattle.nd_script.proofs.words.Numbers.{number_word-at_err, number_word-same, number_word-other}
use Rattle.nd_script.proofs.words.word.number_of.Goals as goal

pub returns-in_err-number : goal.returns-in_err-number
returns-in_err-number c =
    let word = c.args.word.now in
    c.from_residual.ensures ∙ sym (number_word-at_err word c.parse.result c.parse.ensures.value.0 (sym c.ok.ensures.value ∙ c.in_err-number.was))

pub returns-then-eq : goal.returns-then-eq
returns-then-eq c =
    let word = c.args.word.now in
    let number = c.in_ok-number.number in
    let read = sym c.ok.ensures.value ∙ c.in_ok-number.was in
    sym (number_word-same word c.parse.result number c.format.result.now c.parse.ensures.value.0 read c.format.ensures.text (sym c.if-eq.ensures))

pub returns-else-eq : goal.returns-else-eq
returns-else-eq c =
    let word = c.args.word.now in
    let number = c.in_ok-number.number in
    let read = sym c.ok.ensures.value ∙ c.in_ok-number.was in
    sym (number_word-other word c.parse.result number c.format.result.now c.parse.ensures.value.0 read c.format.ensures.text (sym c.if-eq.ensures))
