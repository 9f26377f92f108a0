-- What commands answer and count, with the places of the cells that the last edit ran.
use Rattle.std.specs.Prelude.{◌≡◌, ℕ, List, None}
use Rattle.nd_model.specs.Book.Notebook.{Sheet}
use Rattle.nd_model.specs.Book.Script.{Command, Edits, Asks, Silent, Bad, Stage, step, left_open, edit_answer}
use Rattle.nd_script.specs.Lines.Answers.{AnswerState, Pushes}
use Rattle.nd_script.specs.Lines.Counts.{Tally, CountedAnswer}
use Rattle.nd_script.specs.Lines.Language.{Language}
use Rattle.nd_schedule.specs.Schedule.Ran.{AreStale}
use Rattle.nd_commands.specs.Run.{tally_of}

-- a notebook with its meter, and the places of the cells that ran in the last edit that was done
pub record Noted : Type 0 where
  pub tally : Tally
  pub ran : List ℕ

abbrev pub noted_of : Sheet → (count : ℕ) → (ran : List ℕ) → Noted
noted_of s count ran = record { tally = tally_of s count; ran = ran }

-- an edit that is done notes the cells that it ran, which are the stale ones; another command notes nothing
abbrev pub NotesRan : Command → (text : List ℕ) → (old new : Noted) → Type 0
NotesRan (Edits e) text old new =
    (text ≡ edit_answer None → AreStale old.tally.book new.tally.book new.ran) × (¬ (text ≡ edit_answer None) → new.ran ≡ old.ran)
NotesRan (Asks q) text old new = new.ran ≡ old.ran
NotesRan Silent text old new = new.ran ≡ old.ran
NotesRan Bad text old new = new.ran ≡ old.ran

-- what a command may answer, with what is noted after it
abbrev pub NotedAnswer : Command → Noted → List ℕ → Noted → Type 0
NotedAnswer c old text new = CountedAnswer c old.tally text new.tally × NotesRan c text old new

-- THE PLAIN LANGUAGE, NOTED: the commands of a notebook, counted on its meter, with the cells that each edit ran
abbrev pub noted : Language
noted = record { Command = Command; Stage = Stage; State = Noted; step = step; left_open = left_open; gives = NotedAnswer }

-- The command was carried out, and its answer was appended.
abbrev pub CarriedNoted : Command → Noted → (was now : AnswerState) → Noted → Type 0
CarriedNoted c old was now new = (text : List ℕ) × NotedAnswer c old text new × Pushes was text now
