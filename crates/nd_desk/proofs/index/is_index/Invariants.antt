use Rattle.std.proofs.Common.{◌≡◌}
use Rattle.std.specs.Prelude.{is_some, option_copied}
use Rattle.nd_model.specs.Book.Script.{every}
use Rattle.nd_script.specs.Words.Words.{parts_behind}
use Rattle.nd_script.proofs.words.Parts.{left_over}
use Rattle.nd_desk.specs.Words.{index_word, item_word}
use Rattle.nd_desk.proofs.index.is_index.Given as goal

abbrev pub invariant-loop-left : goal.invariant-loop-left
invariant-loop-left l = is_some (index_word l.word) ≡ is_some (every item_word (parts_behind (option_copied l.left)))

abbrev pub decreases-loop-left : goal.decreases-loop-left
decreases-loop-left l = left_over (option_copied l.left)
