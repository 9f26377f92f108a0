use Rattle.std.proofs.Common.{◌≡◌, ◌++◌, length}
use Rattle.nd_model.specs.Grammar.Grammar.{Many}
use Rattle.nd_model.specs.Grammar.Predict.{read}
use Rattle.nd_model.specs.Grammar.Kinds.{kind, COMMA_MORE}
use Rattle.nd_model.specs.Grammar.Cells.{under, pair}
use Rattle.nd_syntax.specs.Trees.Calls.{field_types_of}
use Rattle.nd_parse.specs.Reader.Gives.{tokens_of}
use Rattle.nd_parse.specs.Reader.Parts.{behind_comma}
use Rattle.nd_parse.proofs.reader.types.other_fields.Given as goal

abbrev pub invariant-more : goal.invariant-more
invariant-more l =
    let part = behind_comma COMMA_MORE (pair (under l.levels)) in
    read kind (Many COMMA_MORE (λ xs. field_types_of l.all ++ xs) part) (tokens_of l.rest) ≡ read kind (Many COMMA_MORE (λ xs. xs) part) (tokens_of l.tokens)

abbrev pub decreases-more : goal.decreases-more
decreases-more l = length (tokens_of l.rest)
