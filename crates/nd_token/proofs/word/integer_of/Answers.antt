use Rattle.std.proofs.Common.{◌∙◌, sym}
use Rattle.nd_token.proofs.Runs.{integer_parsed}
use Rattle.nd_token.proofs.word.integer_of.Goals as goal

pub returns-then-is_plain : goal.returns-then-is_plain
returns-then-is_plain c =
    c.ok.ensures.value ∙ integer_parsed c.args.digits.now c.parse.result c.requires.some c.requires.digits (sym c.is_plain.ensures ∙ c.if-is_plain.true) c.parse.ensures.value.0
