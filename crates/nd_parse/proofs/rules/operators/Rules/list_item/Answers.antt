use Rattle.std.proofs.Common.{Ok, sym, ap, ◌∙◌}
use Rattle.nd_parse.specs.Reader.Gives.{tokens_of, elements_in}
use Rattle.nd_parse.proofs.rules.Steps.{list_item_is}
use Rattle.nd_syntax.proofs.trees.Chains as nodes
use Rattle.nd_parse.proofs.rules.operators.Rules.list_item.Goals as goal

pub returns : goal.returns
returns g c =
    list_item_is c.args.levels (tokens_of c.args.tokens.now) (tokens_of c.in_ok-elements.rest.now) (elements_in c.in_ok-elements.elements) c.in_ok-elements.ensures
    ∙ ap (λ x. Ok (x, tokens_of c.in_ok-elements.rest.now)) (sym (nodes.list_is c.in_ok-elements.elements))
