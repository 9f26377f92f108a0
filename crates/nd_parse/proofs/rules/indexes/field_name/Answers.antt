use Rattle.std.proofs.Common.{Ok, sym, ap, ◌∙◌}
use Rattle.nd_model.specs.Grammar.Syntax.{Field}
use Rattle.nd_model.specs.Grammar.Kinds.{QUOTED}
use Rattle.nd_model.specs.Grammar.Cells.{quoted_of}
use Rattle.nd_token.specs.Tokens.{token_of}
use Rattle.nd_parse.specs.Reader.Gives.{tokens_of}
use Rattle.nd_parse.proofs.reader.Stops.{one_is}
use Rattle.nd_parse.proofs.rules.indexes.field_name.Goals as goal

pub returns : goal.returns
returns c =
    one_is QUOTED (λ t. Field (quoted_of t.word)) (tokens_of c.args.tokens.now) (token_of c.in_ok-token.token) (tokens_of c.in_ok-token.rest.now) c.in_ok-token.ensures
    ∙ ap (λ s. Ok (Field s, tokens_of c.in_ok-token.rest.now)) (sym c.in_ok-quoted_of.ensures)
