use Rattle.std.proofs.Common.{◌≡◌}
use Rattle.std.specs.Prelude.{is_some, option_copied}
use Rattle.nd_model.specs.Book.Script.{every}
use Rattle.nd_script.specs.Words.Words.{parts_of, parts_behind}
use Rattle.nd_script.proofs.words.Parts.{left_over}
use Rattle.nd_desk.proofs.raw.are_numerals.Given as goal

abbrev pub invariant-loop-left : goal.invariant-loop-left
invariant-loop-left g l = is_some (every g.N.Numeral.numeral (parts_of l.word)) ≡ is_some (every g.N.Numeral.numeral (parts_behind (option_copied l.left)))

abbrev pub decreases-loop-left : goal.decreases-loop-left
decreases-loop-left g l = left_over (option_copied l.left)
