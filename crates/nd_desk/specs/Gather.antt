-- Lines behind edits that are to be made as one.
use Rattle.std.specs.Prelude.{◌≡◌, ℕ, List}
use Rattle.nd_script.specs.Lines.Answers.{AnswerState, Pushes}
use Rattle.nd_script.specs.Lines.Language.{AnswersIn}
use Rattle.nd_commands.specs.Noted.{Noted}
use Rattle.nd_desk.specs.Words.{Command, Stage}
use Rattle.nd_desk.specs.Answers.{desk}

-- These commands were answered, whatever is noted, and changed nothing of it; the script stands at this stage then.
abbrev pub Gathers : List Command × Stage → (was : AnswerState) → Stage → (now : AnswerState) → Type 0
Gathers step was t now =
    (held : Noted) → (answer : List ℕ) × ((t ≡ step.1) × AnswersIn desk step.0 held answer held) × Pushes was answer now
