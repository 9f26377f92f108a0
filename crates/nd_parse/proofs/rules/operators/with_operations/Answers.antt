use Rattle.std.proofs.Common.{◌∙◌, ap}
use Rattle.nd_model.specs.Grammar.Cells.{chained}
use Rattle.nd_syntax.specs.Trees.Syntax.{expr_of}
use Rattle.nd_parse.specs.Reader.Gives.{operations_of}
use Rattle.nd_syntax.proofs.trees.Chains.{chain_is}
use Rattle.nd_parse.proofs.rules.operators.with_operations.Goals as goal

pub returns : goal.returns
returns c = chain_is c.in_ok-new.field-0 c.args.others ∙ ap (λ e. chained (expr_of e) (operations_of c.args.others)) c.in_ok-new.ensures.ok
