-- Runs of scripts, as far as they have come.
use Rattle.std.specs.Prelude.{◌≡◌, ℕ, ◌<◌, ◌≤◌, Bool, true, List, [], ◌++◌, length, Option}
use Rattle.std.specs.Io.KnownBytes.{Appends}
use Rattle.nd_script.specs.Lines.Answers.{AnswerState, Pushes}
use Rattle.nd_script.specs.Lines.Language.{Language, AnswersIn, CutAnswersIn, commands_in, completed_in, stage_behind}
use Rattle.nd_model.specs.Book.Script.{IsFront, lines_of, ended_lines}
use Rattle.nd_model.specs.Book.ScriptRuns.{most_line, AreWholeLines, IsInLine, LongLineBehind}
use Rattle.nd_model.specs.Book.ScriptRuns as model
use Rattle.nd_script.specs.declared.lines.run_fault.RunFault.{RunFault}
use Rattle.nd_script.specs.declared.lines.run_fault.RunFault.TheVariants.{ReadFault, WriteFault, LineTooLong, Memory}

-- the fault as the definitions have it
abbrev pub run_fault_of : RunFault → model.RunFault
run_fault_of ReadFault = model.ReadFault
run_fault_of WriteFault = model.WriteFault
run_fault_of LineTooLong = model.LineTooLong
run_fault_of (Memory m) = model.OutOfMemory

-- the beginning of a line, not too long
pub record FitsLine (line : List ℕ) : Type 0 where
  pub in_line : IsInLine line
  pub fits : length line ≤ most_line

-- A line would be too long, or has no room.
abbrev pub IsTooLong : (line : List ℕ) → RunFault → Type 0
IsTooLong line ReadFault = ⊥
IsTooLong line WriteFault = ⊥
IsTooLong line LineTooLong = most_line < length line
IsTooLong line (Memory m) = Unit {0}

-- A front of the answer was written, and all of it where the flag is set.
pub record Wrote (was : Option (List ℕ)) (answer : List ℕ) (is_whole : Bool) (now : Option (List ℕ)) : Type 0 where
  pub front : List ℕ
  pub rest : List ℕ
  pub cut : answer ≡ front ++ rest
  pub whole : is_whole ≡ true → rest ≡ []
  pub appended : Appends was now front

module _ (L : Language) where
  -- ---- one line

  -- What a line says at a stage was carried out and answered, and led to another stage.
  abbrev pub Done : L.Stage → (line : List ℕ) → L.Stage → L.State → (answer : List ℕ) → L.State → Type 0
  Done s line t old answer new = (t ≡ (L.step s line).1) × AnswersIn L (L.step s line).0 old answer new

  -- What a line says was carried out, and its answer was appended.
  abbrev pub Answered : L.Stage → (line : List ℕ) → L.Stage → L.State → (was now : AnswerState) → L.State → Type 0
  Answered s line t old was now new = (answer : List ℕ) × Done s line t old answer new × Pushes was answer now

  -- What a line says was carried out, and its answer was written.
  pub record LineRuns (s : L.Stage) (line : List ℕ) (t : L.Stage) (old : L.State) (was now : Option (List ℕ)) (new : L.State) : Type 0 where
    pub written : List ℕ
    pub stage : t ≡ (L.step s line).1
    pub appended : Appends was now written
    pub answers : AnswersIn L (L.step s line).0 old written new

  pub record LineStops (s : L.Stage) (line : List ℕ) (old : L.State) (was now : Option (List ℕ)) (new : L.State) : Type 0 where
    pub executed : List L.Command
    pub written : List ℕ
    pub first : IsFront executed (L.step s line).0
    pub appended : Appends was now written
    pub answers : CutAnswersIn L executed old written new

  -- What the end of a script makes of a stage was answered, and nothing was changed.
  abbrev pub EndAnswered : L.Stage → L.State → (answer : List ℕ) → Type 0
  EndAnswered s held answer = AnswersIn L (L.left_open s) held answer held

  -- The answer to the end of a script was appended.
  abbrev pub Ended : L.Stage → L.State → (was now : AnswerState) → Type 0
  Ended s held was now = (answer : List ℕ) × EndAnswered s held answer × Pushes was answer now

  -- A front of the answer to the end of a script was written, and all of it where the flag is set.
  abbrev pub WroteEnd : L.Stage → L.State → (was : Option (List ℕ)) → (is_whole : Bool) → (now : Option (List ℕ)) → Type 0
  WroteEnd s held was is_whole now = (answer : List ℕ) × EndAnswered s held answer × Wrote was answer is_whole now

  -- the rest of a script was run, from a stage and a line that nothing ends
  pub record Finishes (s : L.Stage) (line : List ℕ) (old : L.State) (was now : Option (List ℕ)) (new : L.State) : Type 0 where
    pub written : List ℕ
    pub appended : Appends was now written
    pub answers : AnswersIn L (commands_in L s (lines_of line)) old written new

  pub record FinishStops (s : L.Stage) (line : List ℕ) (old : L.State) (was now : Option (List ℕ)) (new : L.State) : Type 0 where
    pub executed : List L.Command
    pub written : List ℕ
    pub first : IsFront executed (commands_in L s (lines_of line))
    pub appended : Appends was now written
    pub answers : CutAnswersIn L executed old written new

  -- where a line and the end of a script stop a run: its answer could not be written, or memory was wanted to read the line, and
  -- then nothing was carried out
  abbrev pub StopsInLine : RunFault → L.Stage → (line : List ℕ) → L.State → (was now : Option (List ℕ)) → L.State → Type 0
  StopsInLine ReadFault s line old was now new = ⊥
  StopsInLine WriteFault s line old was now new = LineStops s line old was now new
  StopsInLine LineTooLong s line old was now new = ⊥
  StopsInLine (Memory m) s line old was now new = (new ≡ old) × (now ≡ was)

  abbrev pub StopsAtEnd : RunFault → L.Stage → (line : List ℕ) → L.State → (was now : Option (List ℕ)) → L.State → Type 0
  StopsAtEnd ReadFault s line old was now new = ⊥
  StopsAtEnd WriteFault s line old was now new = FinishStops s line old was now new
  StopsAtEnd LineTooLong s line old was now new = ⊥
  StopsAtEnd (Memory m) s line old was now new = (new ≡ old) × (now ≡ was)

  -- ---- some bytes

  -- From a stage and the beginning of a line these bytes led to another stage and the beginning of another line; the commands
  -- that they completed were carried out and answered.
  pub record Runs (s : L.Stage) (line bytes : List ℕ) (t : L.Stage) (begun : List ℕ) (old : L.State) (was now : Option (List ℕ)) (new : L.State) : Type 0 where
    pub whole : List ℕ
    pub executed : List L.Command
    pub written : List ℕ
    pub place : line ++ bytes ≡ whole ++ begun
    pub are_whole : AreWholeLines whole
    pub stage : t ≡ stage_behind L s (ended_lines whole)
    pub done : executed ≡ completed_in L s (ended_lines whole)
    pub appended : Appends was now written
    pub answers : AnswersIn L executed old written new

  -- the answers to some commands, by the fault that stopped the run: where an answer was written the last may be cut
  abbrev pub AnswersAt : RunFault → List L.Command → L.State → List ℕ → L.State → Type 0
  AnswersAt ReadFault cs old written new = AnswersIn L cs old written new
  AnswersAt WriteFault cs old written new = CutAnswersIn L cs old written new
  AnswersAt LineTooLong cs old written new = AnswersIn L cs old written new
  AnswersAt (Memory m) cs old written new = AnswersIn L cs old written new

  -- what was carried out before the fault: at a line that is too long or could not be read, the commands of the lines before it
  abbrev pub Before : RunFault → L.Stage → (executed : List L.Command) → (bytes : List ℕ) → Type 0
  Before ReadFault s executed bytes = Unit {0}
  Before WriteFault s executed bytes = Unit {0}
  Before LineTooLong s executed bytes = (front : List ℕ) × LongLineBehind front bytes × (executed ≡ completed_in L s (ended_lines front))
  Before (Memory m) s executed bytes = (front : List ℕ) × (rest : List ℕ) × (bytes ≡ front ++ rest) × AreWholeLines front × (executed ≡ completed_in L s (ended_lines front))

  -- The run stopped within these bytes.
  pub record Stops (f : RunFault) (s : L.Stage) (line bytes : List ℕ) (old : L.State) (was now : Option (List ℕ)) (new : L.State) : Type 0 where
    pub executed : List L.Command
    pub written : List ℕ
    pub first : (more : List ℕ) → IsFront executed (commands_in L s (lines_of (line ++ (bytes ++ more))))
    pub appended : Appends was now written
    pub answers : AnswersAt f executed old written new
    pub before : Before f s executed (line ++ bytes)
