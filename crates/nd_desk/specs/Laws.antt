-- What words for front ends leave as it was.
use Rattle.std.specs.Prelude.{◌≡◌, ℕ, List, IsTrue, Some}
use Rattle.nd_model.specs.Book.Script as script
use Rattle.nd_desk.specs.Words.{Line, read_word, is_end}

-- a bad command of every other script
abbrev pub IsBadElsewhere : List ℕ → Type 0
IsBadElsewhere line = script.read_line line ≡ script.Whole script.Bad

-- NO COMMAND IS ANOTHER: each line that is a word for front ends is a bad command elsewhere, and so is the end of edits.
pub record WordsWereBad : Type 0 where
  pub words : (line : List ℕ) (l : Line) → read_word line ≡ Some l → IsBadElsewhere line
  pub ends : (line : List ℕ) → IsTrue (is_end line) → IsBadElsewhere line
