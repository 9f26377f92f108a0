-- Languages of commands: what the lines of a script say, what may be answered, and runs of scripts in a language.
use Rattle.std.specs.Prelude.{◌≡◌, ℕ, Bool, false, IsTrue, List, [], ◌∷◌, ◌++◌, Option}
use Rattle.std.specs.Io.KnownBytes.{Appends, Consumes, IsAtEnd}
use Rattle.nd_model.specs.Book.Script.{IsFront, MayBeScript, lines_of, ended_lines}
use Rattle.nd_model.specs.Book.ScriptRuns.{RunFault, ReadFault, WriteFault, LineTooLong, OutOfMemory, AreWholeLines, LongLineBehind}

-- A LANGUAGE of commands, which change a state
pub record Language : Type 1 where
  pub Command : Type 0
  -- where a script stands between two of its lines
  pub Stage : Type 0
  pub State : Type 0
  -- the commands that a line completes, and the stage behind it
  pub step : Stage → List ℕ → List Command × Stage
  -- the commands that the end of a script makes
  pub left_open : Stage → List Command
  -- what a command may answer, and the state after it
  pub gives : Command → State → List ℕ → State → Type 0

abbrev pub AtMostOne : {X : Type 0} → List X → Type 0
AtMostOne [] = Unit {0}
AtMostOne (x ∷ []) = Unit {0}
AtMostOne (x ∷ y ∷ more) = ⊥

module _ (L : Language) where
  -- A line, or the end of a script, makes at most one command: so an answer that is cut off is that to the last command.
  pub record OneByOne : Type 0 where
    pub lines : (s : L.Stage) → (line : List ℕ) → AtMostOne (L.step s line).0
    pub ends : (s : L.Stage) → AtMostOne (L.left_open s)

  -- ---- commands

  -- THE COMMANDS of the lines from a stage on, up to the end of the script
  abbrev pub commands_in : L.Stage → List (List ℕ) → List L.Command
  commands_in s [] = L.left_open s
  commands_in s (line ∷ more) = (L.step s line).0 ++ commands_in (L.step s line).1 more

  -- the commands that these lines complete
  abbrev pub completed_in : L.Stage → List (List ℕ) → List L.Command
  completed_in s [] = []
  completed_in s (line ∷ more) = (L.step s line).0 ++ completed_in (L.step s line).1 more

  -- where a script stands behind these lines
  abbrev pub stage_behind : L.Stage → List (List ℕ) → L.Stage
  stage_behind s [] = s
  stage_behind s (line ∷ more) = stage_behind (L.step s line).1 more

  -- whatever else a script that begins with these bytes has, these are its first commands
  abbrev pub AreFirstIn : L.Stage → List L.Command → (ended : Bool) → (given : List ℕ) → Type 0
  AreFirstIn s executed ended given = (script : List ℕ) → MayBeScript ended given script → IsFront executed (commands_in s (lines_of script))

  -- ---- answers

  -- WHAT COMMANDS MAY ANSWER, one after the other, with the state after each
  abbrev pub AnswersIn : List L.Command → L.State → List ℕ → L.State → Type 0
  AnswersIn [] old text new = (text ≡ []) × (new ≡ old)
  AnswersIn (c ∷ cs) old text new =
      (first : List ℕ) × (rest : List ℕ) × (next : L.State) × (text ≡ first ++ rest) × L.gives c old first next × AnswersIn cs next rest new

  -- the same, but that the last answer may be cut off
  abbrev pub CutAnswersIn : List L.Command → L.State → List ℕ → L.State → Type 0
  CutAnswersIn [] old text new = (text ≡ []) × (new ≡ old)
  CutAnswersIn (c ∷ []) old text new = (whole : List ℕ) × IsFront text whole × L.gives c old whole new
  CutAnswersIn (c ∷ d ∷ cs) old text new =
      (first : List ℕ) × (rest : List ℕ) × (next : L.State) × (text ≡ first ++ rest) × L.gives c old first next × CutAnswersIn (d ∷ cs) next rest new

  -- ---- whole runs

  -- A RUN TO THE END from a stage on: the reader gave a script and has nothing left, and each of its commands was carried out and
  -- answered. What was written is their answers.
  pub record RanToEndIn (s : L.Stage) (unread left : Option (List ℕ)) (old : L.State) (was now : Option (List ℕ)) (new : L.State) : Type 0 where
    pub script : List ℕ
    pub written : List ℕ
    pub given : Consumes unread left script
    pub ended : IsAtEnd left
    pub appended : Appends was now written
    pub answers : AnswersIn (commands_in s (lines_of script)) old written new

  -- exactly the commands that are complete in these bytes were carried out and answered
  abbrev pub CompletedIn : L.Stage → (given : List ℕ) → L.State → (written : List ℕ) → L.State → Type 0
  CompletedIn s given old written new =
      AreFirstIn s (completed_in s (ended_lines given)) false given × AnswersIn (completed_in s (ended_lines given)) old written new

  -- some commands were carried out, and the answer to the last of them may be cut off
  abbrev pub CutIn : L.Stage → (ended : Bool) → (given : List ℕ) → L.State → (written : List ℕ) → L.State → Type 0
  CutIn s ended given old written new = (executed : List L.Command) × AreFirstIn s executed ended given × CutAnswersIn executed old written new

  -- exactly the commands of some whole lines were carried out and answered: memory was wanted to read what stands behind
  abbrev pub BeforeIn : L.Stage → (given : List ℕ) → L.State → (written : List ℕ) → L.State → Type 0
  BeforeIn s given old written new =
      (front : List ℕ) × (rest : List ℕ) × (given ≡ front ++ rest) × AreWholeLines front × CompletedIn s front old written new

  -- the commands that were carried out, by the fault
  abbrev pub RunsAtIn : L.Stage → RunFault → (ended : Bool) → (given : List ℕ) → L.State → (written : List ℕ) → L.State → Type 0
  RunsAtIn s ReadFault ended given old written new = CompletedIn s given old written new
  RunsAtIn s WriteFault ended given old written new = CutIn s ended given old written new
  RunsAtIn s LineTooLong ended given old written new = (front : List ℕ) × LongLineBehind front given × CompletedIn s front old written new
  RunsAtIn s OutOfMemory ended given old written new = BeforeIn s given old written new

  -- A RUN THAT STOPPED from a stage on, after these bytes were given: the first commands of the script were carried out and
  -- answered, and what was written is their answers, the last one perhaps cut off where a write failed.
  pub record StoppedAtIn (s : L.Stage) (f : RunFault) (unread left : Option (List ℕ)) (old : L.State) (was now : Option (List ℕ)) (new : L.State) : Type 0 where
    pub given : List ℕ
    pub written : List ℕ
    pub ended : Bool
    pub taken : Consumes unread left given
    pub at_end : IsTrue ended → IsAtEnd left
    pub appended : Appends was now written
    pub answers : RunsAtIn s f ended given old written new
