use Rattle.std.proofs.Common.{Ok, sym, ap, ◌∙◌}
use Rattle.nd_parse.specs.Reader.Gives.{tokens_of, items_in}
use Rattle.nd_parse.proofs.rules.Steps.{contents_items}
use Rattle.nd_syntax.proofs.trees.Chains as nodes
use Rattle.nd_parse.proofs.rules.operators.Rules.contents.Goals as goal

pub returns : goal.returns
returns g c =
    contents_items c.args.levels (tokens_of c.args.tokens.now) (tokens_of c.in_ok-all.rest.now) (items_in c.in_ok-all.all) (sym c.next_in.ensures ∙ c.if-next_in.false) c.in_ok-all.ensures
    ∙ ap (λ x. Ok (x, tokens_of c.in_ok-all.rest.now)) (sym (nodes.index_is c.in_ok-all.all))
