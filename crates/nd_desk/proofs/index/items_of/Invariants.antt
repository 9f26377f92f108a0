use Rattle.std.proofs.Common.{◌≡◌}
use Rattle.std.specs.Prelude.{option_copied}
use Rattle.nd_model.specs.Book.Script.{every}
use Rattle.nd_index.specs.Basic.Items as basic
use Rattle.nd_script.specs.Words.Words.{parts_behind}
use Rattle.nd_script.proofs.words.Parts.{behind, left_over}
use Rattle.nd_desk.specs.Words.{index_word, item_word}
use Rattle.nd_desk.proofs.index.items_of.Given as goal

abbrev pub invariant-loop-left : goal.invariant-loop-left
invariant-loop-left l = index_word l.word ≡ behind (basic.items_of l.items.items) (every item_word (parts_behind (option_copied l.left)))

abbrev pub decreases-loop-left : goal.decreases-loop-left
decreases-loop-left l = left_over (option_copied l.left)
