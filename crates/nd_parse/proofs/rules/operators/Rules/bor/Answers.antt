use Rattle.nd_model.specs.Grammar.Cells.{under}
use Rattle.nd_parse.specs.Reader.Gives.{tokens_of, spot_of}
use Rattle.nd_parse.proofs.rules.Steps.{bor_is}
use Rattle.nd_parse.proofs.rules.operators.Rules.bor.Goals as goal

pub returns : goal.returns
returns g c = rw (bor_is (spot_of c.args.spot) (under c.args.levels) (tokens_of c.args.tokens.now)) c.ranked.ensures
