use Rattle.std.proofs.Common.{◌≡◌, length}
use Rattle.nd_model.specs.Grammar.Grammar.{Many}
use Rattle.nd_model.specs.Grammar.Predict.{read}
use Rattle.nd_model.specs.Grammar.Kinds.{kind, SUFFIX}
use Rattle.nd_model.specs.Grammar.Cells.{under}
use Rattle.nd_model.specs.Grammar.Factored.{group}
use Rattle.nd_syntax.specs.Trees.Syntax.{index_of}
use Rattle.nd_parse.specs.Reader.Gives.{tokens_of, suffixes_of}
use Rattle.nd_parse.specs.Cells.Readers.{collected, trailing}
use Rattle.nd_parse.proofs.cells.stmt.Statements.trailing.Given as goal

abbrev pub invariant-groups : goal.invariant-groups
invariant-groups g l =
    read kind (Many SUFFIX (collected (suffixes_of l.all.0) (index_of l.all.1)) (group (under l.levels))) (tokens_of l.rest) ≡ read kind (trailing (under l.levels)) (tokens_of l.tokens)

abbrev pub decreases-groups : goal.decreases-groups
decreases-groups g l = length (tokens_of l.rest)
