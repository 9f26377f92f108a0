-- Commands that are carried out.
use Rattle.std.specs.Prelude.{◌≡◌, ℕ, List}
use Rattle.nd_model.specs.Book.Book.{Book}
use Rattle.nd_model.specs.Book.Script.{Command, Answer, Line, Whole, Opens}
use Rattle.nd_script.specs.Lines.Answers.{AnswerState, Pushes}
use Rattle.nd_commands.specs.Noted.{Noted, CarriedNoted}

-- The command was carried out, and its answer was appended.
abbrev pub Carried : Command → Book → (was now : AnswerState) → Book → Type 0
Carried c old was now new = (text : List ℕ) × Answer c old text new × Pushes was text now

-- What a line says was carried out and noted; the opening of a source does nothing.
abbrev pub CarriedLine : Line → Noted → (was now : AnswerState) → Noted → Type 0
CarriedLine (Whole c) old was now new = CarriedNoted c old was now new
CarriedLine (Opens o) old was now new = (new ≡ old) × (now ≡ was)
