use Rattle.nd_model.specs.Grammar.Cells.{nothing}
use Rattle.nd_parse.specs.Reader.Gives.{tokens_of}
use Rattle.nd_parse.proofs.reader.Levels.{enter_shut}
use Rattle.nd_parse.proofs.rules.Steps.{nothing_is}
use Rattle.nd_parse.proofs.rules.indexes.nothing.Goals as goal

pub returns-then-levels-eq0 : goal.returns-then-levels-eq0
unfolding nothing
returns-then-levels-eq0 c = rw c.refuse.ensures (enter_shut c.args.levels _ _ c.args.tokens.now c.if-levels-eq0.true)

pub returns : goal.returns
returns c = rw (nothing_is c.args.levels (tokens_of c.args.tokens.now) c.if-levels-eq0.false) c.no_items.ensures
