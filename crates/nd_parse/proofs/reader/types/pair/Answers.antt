use Rattle.nd_model.specs.Grammar.Cells.{pair}
use Rattle.nd_parse.specs.Reader.Gives.{tokens_of}
use Rattle.nd_parse.proofs.reader.Levels.{enter_shut, pair_is}
use Rattle.nd_parse.proofs.reader.types.pair.Goals as goal

pub returns-then-levels-eq0 : goal.returns-then-levels-eq0
unfolding pair
returns-then-levels-eq0 c = rw c.refuse.ensures (enter_shut c.args.levels _ _ c.args.tokens.now c.if-levels-eq0.true)

pub returns : goal.returns
returns c = rw (pair_is c.args.levels (tokens_of c.args.tokens.now) c.if-levels-eq0.false) c.field.ensures
