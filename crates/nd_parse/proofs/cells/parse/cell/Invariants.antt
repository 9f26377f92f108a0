use Rattle.std.proofs.Common.{◌≡◌}
use Rattle.nd_model.specs.Grammar.Predict.{read}
use Rattle.nd_model.specs.Grammar.Kinds.{kind}
use Rattle.nd_model.specs.Grammar.Cells.{under}
use Rattle.nd_model.specs.Grammar.Factored.{stmt, cell}
use Rattle.nd_parse.specs.Reader.Gives.{tokens_of, list_of}
use Rattle.nd_parse.proofs.cells.Lines.{after}
use Rattle.nd_parse.proofs.cells.parse.cell.Given as goal

abbrev pub invariant-lines : goal.invariant-lines
invariant-lines l = after (stmt (under 64)) (list_of l.all) l.left (tokens_of l.rest) ≡ read kind cell (tokens_of l.tokens)

abbrev pub decreases-lines : goal.decreases-lines
decreases-lines l = l.left
