use Rattle.std.proofs.Common.{◌≡◌, length}
use Rattle.nd_notebook.proofs.Looking.{lacks_after}
use Rattle.nd_notebook.proofs.notebook.Notebook.has_input_after.Given as goal

abbrev pub invariant-loop-number : goal.invariant-loop-number
invariant-loop-number l = lacks_after l.name l.front l.self (length l.front) ≡ lacks_after l.name l.front l.self l.number
