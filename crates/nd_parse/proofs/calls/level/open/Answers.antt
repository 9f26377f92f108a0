use Rattle.nd_model.specs.Grammar.Cells.{token}
use Rattle.nd_parse.proofs.reader.Levels.{enter_shut, enter_in}
use Rattle.nd_parse.specs.Reader.Gives.{tokens_of}
use Rattle.nd_parse.proofs.calls.level.open.Goals as goal

pub returns-then-levels-eq0-clause-read : goal.returns-then-levels-eq0-clause-read
returns-then-levels-eq0-clause-read c = rw c.refuse.ensures (enter_shut c.args.levels c.args.set (λ _. token c.args.set) c.args.tokens.now c.if-levels-eq0.true)

pub returns-clause-read : goal.returns-clause-read
returns-clause-read c = rw (enter_in c.args.levels c.args.set (λ _. token c.args.set) (tokens_of c.args.tokens.now) c.if-levels-eq0.false) c.in_ok-rest.ensures
