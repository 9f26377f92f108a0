-- How many bases a statement makes.
use Rattle.std.specs.Prelude.{◌+◌, ◌≤◌}
use Rattle.nd_model.specs.Cells.Running.{Inputs, Running}
use Rattle.nd_model.specs.Grammar.Syntax.{Stmt}
use Rattle.nd_model.specs.Grammar.Tokens.{tokens_of_stmt}
use Rattle.nd_model.specs.Cells.Cell.{statement}

-- FEW BASES: a statement, refused or not, makes at most one for each of its tokens
abbrev pub FewBases : Type 0
FewBases = (i : Inputs) (s : Stmt) (r : Running) → (statement i s r).1.next ≤ r.next + tokens_of_stmt s
