use Rattle.std.proofs.Common.{◌≡◌, ◌++◌, length}
use Rattle.nd_model.specs.Grammar.Grammar.{Many}
use Rattle.nd_model.specs.Grammar.Predict.{read}
use Rattle.nd_model.specs.Grammar.Kinds.{kind, SUFFIX}
use Rattle.nd_model.specs.Grammar.Cells.{under, suffix}
use Rattle.nd_parse.specs.Reader.Gives.{tokens_of, suffixes_of}
use Rattle.nd_parse.proofs.calls.operands.Calls.suffixes.Given as goal

abbrev pub invariant-more : goal.invariant-more
invariant-more g l =
    let part = suffix (under l.levels) in
    read kind (Many SUFFIX (λ xs. suffixes_of l.all ++ xs) part) (tokens_of l.rest) ≡ read kind (Many SUFFIX (λ xs. xs) part) (tokens_of l.tokens)

abbrev pub decreases-more : goal.decreases-more
decreases-more g l = length (tokens_of l.rest)
