-- Words for front ends that are carried out.
use Rattle.std.specs.Prelude.{ℕ, ◌⊎◌, List}
use Rattle.nd_script.specs.Lines.Answers.{AnswerState, Pushes}
use Rattle.nd_model.specs.Book.Notebook.{Sheet}
use Rattle.nd_commands.specs.Noted.{Noted, noted_of}
use Rattle.nd_desk.specs.Words.{Command}
use Rattle.nd_desk.specs.Answers.{Gives, out_of_memory}

-- The command was carried out, and its answer was appended.
abbrev pub CarriedOut : Command → Noted → (was now : AnswerState) → Noted → Type 0
CarriedOut c old was now new = (text : List ℕ) × Gives c old text new × Pushes was text now

-- The command was answered, whatever the meter shows and whichever cells ran, and it changed nothing.
abbrev pub Asked : Command → Sheet → (was now : AnswerState) → Type 0
Asked c sheet was now = (count : ℕ) (ran : List ℕ) → CarriedOut c (noted_of sheet count ran) was now (noted_of sheet count ran)

-- the answer was appended, or that memory is wanted
abbrev pub PushesAnswer : (text : List ℕ) → (was now : AnswerState) → Type 0
PushesAnswer text was now = Pushes was text now ⊎ Pushes was out_of_memory now
