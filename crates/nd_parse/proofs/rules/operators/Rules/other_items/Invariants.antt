use Rattle.std.proofs.Common.{◌≡◌, ◌++◌, length}
use Rattle.nd_model.specs.Grammar.Grammar.{Many}
use Rattle.nd_model.specs.Grammar.Predict.{read}
use Rattle.nd_model.specs.Grammar.Kinds.{kind, COMMA_MORE}
use Rattle.nd_model.specs.Grammar.Cells.{LaterItem, item}
use Rattle.nd_parse.specs.Reader.Gives.{inside, tokens_of, items_in}
use Rattle.nd_parse.specs.Reader.Parts.{behind_comma}
use Rattle.nd_parse.proofs.rules.operators.Rules.other_items.Given as goal

abbrev pub invariant-more : goal.invariant-more
invariant-more g l =
    let part = behind_comma COMMA_MORE (item LaterItem (inside l.levels)) in
    read kind (Many COMMA_MORE (λ xs. items_in l.all ++ xs) part) (tokens_of l.rest) ≡ read kind (Many COMMA_MORE (λ xs. xs) part) (tokens_of l.tokens)

abbrev pub decreases-more : goal.decreases-more
decreases-more g l = length (tokens_of l.rest)
