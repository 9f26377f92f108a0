use Rattle.std.proofs.Common.{◌≡◌, ◌++◌, length}
use Rattle.nd_model.specs.Grammar.Grammar.{Many}
use Rattle.nd_model.specs.Grammar.Predict.{read}
use Rattle.nd_model.specs.Grammar.Kinds.{kind}
use Rattle.nd_model.specs.Grammar.Cells.{Anywhere, under, expr}
use Rattle.nd_parse.specs.Reader.Gives.{tokens_of, exprs_of}
use Rattle.nd_parse.specs.Reader.Parts.{behind_comma}
use Rattle.nd_parse.proofs.rules.operators.Rules.others.Given as goal

abbrev pub invariant-more : goal.invariant-more
invariant-more g l =
    let part = behind_comma l.comma (expr Anywhere (under l.levels)) in
    read kind (Many l.comma (λ xs. exprs_of l.all ++ xs) part) (tokens_of l.rest) ≡ read kind (Many l.comma (λ xs. xs) part) (tokens_of l.tokens)

abbrev pub decreases-more : goal.decreases-more
decreases-more g l = length (tokens_of l.rest)
