use Rattle.std.proofs.Common.{◌≡◌, ◌+◌, ◌*◌, ◌++◌, length}
use Rattle.nd_model.specs.Grammar.Grammar.{Many}
use Rattle.nd_model.specs.Grammar.Predict.{read}
use Rattle.nd_model.specs.Grammar.Kinds.{kind, COMMA_MORE}
use Rattle.nd_model.specs.Grammar.Cells.{element}
use Rattle.nd_parse.specs.Reader.Gives.{inside, tokens_of, list_of_elements}
use Rattle.nd_parse.specs.Reader.Parts.{behind_comma}
use Rattle.nd_parse.proofs.rules.operators.Rules.+lists.Given as goal

abbrev pub decreases-list : goal.decreases-list
decreases-list g l = l.levels * 1024 + 0

abbrev pub decreases-element : goal.decreases-element
decreases-element g l = l.levels * 1024 + 37

abbrev pub decreases-other_element : goal.decreases-other_element
decreases-other_element g l = l.levels * 1024 + 38

abbrev pub decreases-other_elements : goal.decreases-other_elements
decreases-other_elements g l = l.levels * 1024 + 39

abbrev pub decreases-some_elements : goal.decreases-some_elements
decreases-some_elements g l = l.levels * 1024 + 40

abbrev pub decreases-elements : goal.decreases-elements
decreases-elements g l = l.levels * 1024 + 41

abbrev pub decreases-listed : goal.decreases-listed
decreases-listed g l = l.levels * 1024 + 42

abbrev pub invariant-other_elements-more : goal.invariant-other_elements-more
invariant-other_elements-more g l =
    let part = behind_comma COMMA_MORE (element (inside l.levels)) in
    read kind (Many COMMA_MORE (λ xs. list_of_elements l.all ++ xs) part) (tokens_of l.rest) ≡ read kind (Many COMMA_MORE (λ xs. xs) part) (tokens_of l.tokens)

abbrev pub decreases-other_elements-more : goal.decreases-other_elements-more
decreases-other_elements-more g l = length (tokens_of l.rest)
