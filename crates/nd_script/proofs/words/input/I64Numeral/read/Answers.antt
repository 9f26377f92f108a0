use Rattle.std.proofs.Common.{◌∙◌, ap, lit<}
use Rattle.std.proofs.lemmas.Str.Pattern.{strip_prefix_char}
use Rattle.nd_model.specs.Book.Script.{positive}
use Rattle.nd_script.proofs.words.InputWords.{no_sign}
use Rattle.nd_script.proofs.words.input.I64Numeral.read.Goals as goal

pub returns-in-None : goal.returns-in-None
returns-in-None c =
    let word = c.args.word.now in
    let other = rw c.in-None.is at (strip_prefix_char 45 word c.strip_prefix.result c.strip_prefix.ensures.cases (lit< tt)) in
    c.positive.ensures ∙ ap positive c.number_of-in-None.ensures ∙ no_sign word other
