use Rattle.std.proofs.Common.{◌≡◌}
use Rattle.std.specs.Prelude.{option_copied}
use Rattle.nd_model.specs.Book.Script.{every}
use Rattle.nd_script.specs.Words.Words.{parts_of, parts_behind}
use Rattle.nd_script.proofs.words.Parts.{behind, left_over}
use Rattle.nd_script.proofs.words.input.numbers_in.Given as goal

abbrev pub invariant-loop-left : goal.invariant-loop-left
invariant-loop-left g l =
    every g.N.Numeral.numeral (parts_of l.word) ≡ behind l.all.items (every g.N.Numeral.numeral (parts_behind (option_copied l.left)))

abbrev pub decreases-loop-left : goal.decreases-loop-left
decreases-loop-left g l = left_over (option_copied l.left)
