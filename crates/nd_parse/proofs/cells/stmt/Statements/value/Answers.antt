use Rattle.std.proofs.Common.{refl}
use Rattle.nd_model.specs.Grammar.Kinds.{ASSIGNMENT}
use Rattle.nd_model.specs.Grammar.Cells.{augment, value}
use Rattle.nd_token.specs.Tokens.{token_of}
use Rattle.nd_parse.specs.Reader.Gives.{tokens_of}
use Rattle.nd_parse.proofs.reader.Stops.{one_is}
use Rattle.nd_parse.proofs.cells.stmt.Statements.value.Goals as goal

pub returns : goal.returns
unfolding value
returns g c =
    rw (one_is ASSIGNMENT augment (tokens_of c.args.tokens.now) (token_of c.in_ok-assignment.assignment) (tokens_of c.in_ok-assignment.rest.now) c.in_ok-assignment.ensures, c.in_ok-value.ensures, c.augment_of.ensures) refl
