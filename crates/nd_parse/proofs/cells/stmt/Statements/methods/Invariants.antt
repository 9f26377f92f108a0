use Rattle.std.proofs.Common.{◌≡◌, ◌++◌, length}
use Rattle.nd_model.specs.Grammar.Grammar.{Many}
use Rattle.nd_model.specs.Grammar.Predict.{read}
use Rattle.nd_model.specs.Grammar.Kinds.{kind, DOT}
use Rattle.nd_model.specs.Grammar.Cells.{under, method}
use Rattle.nd_parse.specs.Reader.Gives.{tokens_of, methods_of}
use Rattle.nd_parse.proofs.cells.stmt.Statements.methods.Given as goal

abbrev pub invariant-more : goal.invariant-more
invariant-more g l =
    read kind (Many DOT (λ ms. methods_of l.all ++ ms) (method (under l.levels))) (tokens_of l.rest) ≡ read kind (Many DOT (λ ms. ms) (method (under l.levels))) (tokens_of l.tokens)

abbrev pub decreases-more : goal.decreases-more
decreases-more g l = length (tokens_of l.rest)
