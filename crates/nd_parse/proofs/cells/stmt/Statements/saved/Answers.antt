use Rattle.nd_model.specs.Grammar.Cells.{saved}
use Rattle.nd_parse.specs.Reader.Gives.{tokens_of}
use Rattle.nd_parse.proofs.reader.Levels.{enter_shut}
use Rattle.nd_parse.proofs.cells.Steps.{saved_is}
use Rattle.nd_parse.proofs.cells.stmt.Statements.saved.Goals as goal

pub returns-then-levels-eq0 : goal.returns-then-levels-eq0
unfolding saved
returns-then-levels-eq0 g c = rw c.refuse.ensures (enter_shut c.args.levels _ _ c.args.tokens.now c.if-levels-eq0.true)

pub returns : goal.returns
returns g c = rw (saved_is c.args.levels (tokens_of c.args.tokens.now) c.if-levels-eq0.false) c.saved_in.ensures
