use Rattle.std.proofs.Common.{◌≡◌, ◌+◌, ◌*◌, ◌++◌, length}
use Rattle.nd_model.specs.Grammar.Grammar.{Many}
use Rattle.nd_model.specs.Grammar.Predict.{read}
use Rattle.nd_model.specs.Grammar.Kinds.{kind}
use Rattle.nd_model.specs.Grammar.Cells.{Anywhere, under, operation}
use Rattle.nd_parse.specs.Reader.Gives.{tokens_of, operations_of}
use Rattle.nd_parse.specs.Rules.Readers.{ranked}
use Rattle.nd_parse.proofs.rules.operators.Rules.+ranks.Given as goal

abbrev pub decreases-ranked : goal.decreases-ranked
decreases-ranked g l = l.levels * 1024 + 4 * l.rank + 9

abbrev pub decreases-operation : goal.decreases-operation
decreases-operation g l = l.levels * 1024 + 4 * l.rank + 10

abbrev pub decreases-operations : goal.decreases-operations
decreases-operations g l = l.levels * 1024 + 4 * l.rank + 11

abbrev pub decreases-chain : goal.decreases-chain
decreases-chain g l = l.levels * 1024 + 4 * l.rank + 12

abbrev pub invariant-operations-more : goal.invariant-operations-more
invariant-operations-more g l =
    let part = operation l.set (ranked l.rank Anywhere (under l.levels)) in
    read kind (Many l.set (λ xs. operations_of l.all ++ xs) part) (tokens_of l.rest) ≡ read kind (Many l.set (λ xs. xs) part) (tokens_of l.tokens)

abbrev pub decreases-operations-more : goal.decreases-operations-more
decreases-operations-more g l = length (tokens_of l.rest)
