use Rattle.nd_token.specs.Tokens.{token_of}
use Rattle.nd_model.proofs.Parsing.Words.{word_below}
use Rattle.nd_parse.specs.Reader.Gives.{tokens_of}
use Rattle.nd_parse.proofs.reader.kinds.kind.Goals as goal

pub returns-else-token-clause-below : goal.returns-else-token-clause-below
returns-else-token-clause-below c = rw c.kind_of_word.ensures (word_below (token_of c.args.token).word (tokens_of c.args.rest.now))
