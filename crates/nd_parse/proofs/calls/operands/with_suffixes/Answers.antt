use Rattle.std.proofs.Common.{◌∙◌, ap}
use Rattle.nd_model.specs.Grammar.Cells.{suffixed}
use Rattle.nd_syntax.specs.Trees.Syntax.{expr_of}
use Rattle.nd_parse.specs.Reader.Gives.{suffixes_of}
use Rattle.nd_syntax.proofs.trees.Chains.{postfix_is}
use Rattle.nd_parse.proofs.calls.operands.with_suffixes.Goals as goal

pub returns : goal.returns
returns c = postfix_is c.in_ok-new.field-0 c.args.suffixes ∙ ap (λ e. suffixed (expr_of e) (suffixes_of c.args.suffixes)) c.in_ok-new.ensures.ok
