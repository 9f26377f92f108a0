-- How a run of a script ends: what was read, carried out and written then.
use Rattle.std.specs.Prelude.{◌≡◌, ◌≢◌, ℕ, ◌^◌, ◌<◌, ◌⊎◌, Bool, IsTrue, All, List, [], ◌∷◌, ◌++◌, length, Option}
use Rattle.std.specs.Io.KnownBytes.{Appends, Consumes, IsAtEnd}
use Rattle.nd_model.specs.Book.Book.{Book}
use Rattle.nd_model.specs.Book.Script.{RunsWhole, RunsCompleted, RunsCut}

-- why a script is not run to its end
pub data RunFault : Type 0 where
  ReadFault : RunFault
  WriteFault : RunFault
  LineTooLong : RunFault
  OutOfMemory : RunFault

-- the most bytes of a line
abbrev pub most_line : ℕ
most_line = 2 ^ 28

-- no newline is among the bytes
abbrev pub IsInLine : List ℕ → Type 0
IsInLine bytes = All (λ c. c ≢ 10) bytes

-- bytes that are whole lines: none, or as far as some newline
abbrev pub AreWholeLines : List ℕ → Type 0
AreWholeLines bytes = (bytes ≡ []) ⊎ ((before : List ℕ) × (bytes ≡ before ++ 10 ∷ []))

-- behind these whole lines stands one that is too long
pub record LongLineBehind (front bytes : List ℕ) : Type 0 where
  pub line : List ℕ
  pub rest : List ℕ
  pub place : bytes ≡ front ++ line ++ rest
  pub are_whole : AreWholeLines front
  pub in_line : IsInLine line
  pub long : most_line < length line

-- A RUN TO THE END: the reader gave a script and has nothing left, and what was written is the answers to all of it.
pub record RanToEnd (unread left : Option (List ℕ)) (old : Book) (was now : Option (List ℕ)) (new : Book) : Type 0 where
  pub script : List ℕ
  pub written : List ℕ
  pub given : Consumes unread left script
  pub ended : IsAtEnd left
  pub appended : Appends was now written
  pub answers : RunsWhole script old written new

-- the commands that were carried out, by the fault: where a read failed, exactly those that were complete; at a line that is
-- too long, exactly those of the lines before it; where an answer was made or written, the last one's answer may be cut off
abbrev pub RunsAt : RunFault → (ended : Bool) → (given : List ℕ) → Book → (written : List ℕ) → Book → Type 0
RunsAt ReadFault ended given old written new = RunsCompleted given old written new
RunsAt WriteFault ended given old written new = RunsCut ended given old written new
RunsAt LineTooLong ended given old written new = (front : List ℕ) × LongLineBehind front given × RunsCompleted front old written new
RunsAt OutOfMemory ended given old written new = RunsCut ended given old written new

-- A RUN THAT STOPPED, after these bytes were given: the commands that were carried out are the first ones of the script,
-- whatever else it has, and what was written is their answers, the last one perhaps cut off.
pub record StoppedAt (f : RunFault) (unread left : Option (List ℕ)) (old : Book) (was now : Option (List ℕ)) (new : Book) : Type 0 where
  pub given : List ℕ
  pub written : List ℕ
  pub ended : Bool
  pub taken : Consumes unread left given
  pub at_end : IsTrue ended → IsAtEnd left
  pub appended : Appends was now written
  pub answers : RunsAt f ended given old written new
