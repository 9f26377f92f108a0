use Rattle.std.proofs.Common.{refl}
use Rattle.nd_model.specs.Grammar.Kinds.{BOUND}
use Rattle.nd_model.specs.Grammar.Cells.{name_of}
use Rattle.nd_model.specs.Grammar.Factored.{bind}
use Rattle.nd_token.specs.Tokens.{token_of}
use Rattle.nd_parse.specs.Reader.Gives.{tokens_of}
use Rattle.nd_parse.proofs.reader.Stops.{one_is}
use Rattle.nd_parse.proofs.cells.stmt.Statements.bind.Goals as goal

pub returns : goal.returns
unfolding bind
returns g c = rw (c.bound.ensures, one_is BOUND name_of (tokens_of c.args.tokens.now) (token_of c.in_ok-token.token) (tokens_of c.in_ok-token.rest.now) c.in_ok-token.ensures, c.in_ok-op.ensures, c.in_ok-name.ensures) refl
