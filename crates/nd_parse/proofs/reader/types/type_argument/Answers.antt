use Rattle.nd_model.specs.Grammar.Cells.{type_argument}
use Rattle.nd_parse.specs.Reader.Gives.{tokens_of}
use Rattle.nd_parse.proofs.reader.Levels.{enter_shut, type_argument_is}
use Rattle.nd_parse.proofs.reader.types.type_argument.Goals as goal

pub returns-then-levels-eq0 : goal.returns-then-levels-eq0
unfolding type_argument
returns-then-levels-eq0 c = rw c.refuse.ensures (enter_shut c.args.levels _ _ c.args.tokens.now c.if-levels-eq0.true)

pub returns : goal.returns
returns c = rw (type_argument_is c.args.levels (tokens_of c.args.tokens.now) c.if-levels-eq0.false) c.type_in_brackets.ensures
