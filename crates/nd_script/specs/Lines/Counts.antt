-- What the commands of a notebook answer and count on the meter, which has the runs of cells.
use Rattle.std.specs.Prelude.{◌≡◌, ℕ, List, Option, Some, None}
use Rattle.nd_model.specs.Book.Book.{Book, EditFault, refusal, edited}
use Rattle.nd_model.specs.Book.Stale.{CountsStale}
use Rattle.nd_model.specs.Book.Script.{Command, Edits, Asks, Silent, Bad, Answer, Stage, Between, step, left_open}
use Rattle.nd_model.specs.Book.ScriptRuns.{RunFault}
use Rattle.nd_script.specs.Lines.Language.{Language, RanToEndIn, StoppedAtIn}

-- a notebook, and what its meter shows
pub record Tally : Type 0 where
  pub book : Book
  pub count : ℕ

-- what an edit counts: where it is refused nothing, and else no more runs than it makes cells stale, also where memory is wanted
abbrev pub CountsUnlessRefused : Option EditFault → (old new : Book) → (before after : ℕ) → Type 0
CountsUnlessRefused None old new before after = CountsStale old new before after
CountsUnlessRefused (Some f) old new before after = after ≡ before

-- WHAT A COMMAND COUNTS on the meter: one that is no edit counts nothing
abbrev pub CountsCommand : Command → Book → (before after : ℕ) → Type 0
CountsCommand (Edits e) b before after = CountsUnlessRefused (refusal e b) b (edited e b) before after
CountsCommand (Asks q) b before after = after ≡ before
CountsCommand Silent b before after = after ≡ before
CountsCommand Bad b before after = after ≡ before

-- what a command may answer, with the notebook and the meter after it
abbrev pub CountedAnswer : Command → Tally → List ℕ → Tally → Type 0
CountedAnswer c old text new = Answer c old.book text new.book × CountsCommand c old.book old.count new.count

-- THE PLAIN LANGUAGE: the commands of a notebook, counted on its meter
abbrev pub plain : Language
plain = record { Command = Command; Stage = Stage; State = Tally; step = step; left_open = left_open; gives = CountedAnswer }

-- A RUN TO THE END, COUNTED: the reader gave a script and has nothing left, and each of its commands was carried out, answered and
-- counted. What was written is their answers.
abbrev pub CountedToEnd : (unread left : Option (List ℕ)) → Tally → (was now : Option (List ℕ)) → Tally → Type 0
CountedToEnd unread left old was now new = RanToEndIn plain Between unread left old was now new

-- A RUN THAT STOPPED, COUNTED: the first commands of the script were carried out, answered and counted, and what was written is
-- their answers, the last one perhaps cut off where a write failed.
abbrev pub CountedStop : RunFault → (unread left : Option (List ℕ)) → Tally → (was now : Option (List ℕ)) → Tally → Type 0
CountedStop f unread left old was now new = StoppedAtIn plain Between f unread left old was now new
