-- Cells, and notebooks run from nothing.
use Rattle.std.specs.Prelude.{ℕ, ◌||◌, ◌^◌, nat_le, if◌then◌else◌, List, [], ◌∷◌, ◌++◌, length, Option, Some, None, Result, Ok, Err}
use Rattle.nd_model.specs.Cells.Session.{Session, collected, bind}
use Rattle.nd_model.specs.Cells.Running.{Running, Inputs, Rule, Python, Atomic, World, is_rule, start, session_of, Effect, done, Output, output}
use Rattle.nd_model.specs.Cells.Fault.{Fault, TextTooLong, ParseFault, Refusal, Parse, Statement}
use Rattle.nd_model.specs.Cells.Fault as fault
use Rattle.nd_model.specs.Grammar.Syntax.{Stmt, Line, Parsed}
use Rattle.nd_model.specs.Cells.Evaluation.{run}
use Rattle.nd_model.specs.Cells.Meaning.{meaning}

-- the files that a cell saved, by name in order
abbrev pub Saved : Type 0
Saved = List (List ℕ × List ℕ)

-- a cell's end: the text, the refusal with its line from 1, the files, and the session with what was read and done
pub record Ended : Type 0 where
  pub text : List ℕ
  pub refusal : Option (ℕ × Refusal)
  pub saves : Saved
  pub running : Running

-- what was evaluated has its effect; a refusal has none
abbrev pub had : Result Effect Fault × Running → Result Output Fault × Running
had (Ok e, r) = (Ok (output e), done e r)
had (Err f, r) = (Err f, r)

-- A STATEMENT: what it gives or its refusal, and the session after it
abbrev pub statement : Inputs → Stmt → Running → Result Output Fault × Running
statement inputs s r = had (run inputs (meaning s) r)

-- the most bytes of a cell's text
abbrev pub most_text : ℕ
most_text = 2 ^ 20

-- A text that is longer by itself than a cell's may be is told as the refusal that its cell gives: it need not be built.
abbrev pub limit_text : Result Output Fault × Running → Result Output Fault × Running
limit_text (Ok o, r) = (if nat_le (length o.text) most_text then Ok o else Err (fault.Stmt TextTooLong), r)
limit_text (Err f, r) = (Err f, r)

-- a file of a name that is there replaces its bytes
abbrev pub with_save : Option (List ℕ × List ℕ) → Saved → Saved
with_save None saves = saves
with_save (Some f) saves = bind f.0 f.1 saves

-- The rest comes after what was printed and saved. At a refusal the cell stops, and also where its text would grow too long.
abbrev pub and_then : ℕ → List ℕ → Saved → Result Output Fault × Running → (List ℕ → Saved → Running → Ended) → Ended
and_then line text saves (Ok o, r) rest =
    if nat_le (length (text ++ o.text)) most_text
    then rest (text ++ o.text) (with_save o.save saves) r
    else record { text = text; refusal = Some (line, Statement (fault.Stmt TextTooLong)); saves = saves; running = r }
and_then line text saves (Err f, r) rest = record { text = text; refusal = Some (line, Statement f); saves = saves; running = r }

abbrev pub statements : Inputs → List Line → List ℕ → Saved → Running → Ended
statements inputs [] text saves r = record { text = text; refusal = None; saves = saves; running = r }
statements inputs (l ∷ ls) text saves r = and_then l.line text saves (statement inputs l.stmt r) (statements inputs ls)

-- a text that is no cell runs nothing
abbrev pub ran : Inputs → Parsed → Running → Ended
ran inputs (Ok ls) r = statements inputs ls [] [] r
ran inputs (Err f) r = record { text = []; refusal = Some (f.line, Parse f.kind f.column); saves = []; running = r }

-- what a refused cell has read: the rule too
abbrev pub ruled : Running → Running
ruled r = record r { read = λ k. r.read k || is_rule k }

-- The end of a cell under the rule; `began` is the session that it ran from. A refused one keeps its text and its refusal. Under the
-- rule `Atomic` it saves nothing, and its session is `began`, with what was read.
abbrev pub under : Rule → Running → Option (ℕ × Refusal) → Ended → Ended
under rule began None e = e
under Python began (Some f) e = record e { running = ruled e.running }
under Atomic began (Some f) e = record e { saves = []; running = record began { read = (ruled e.running).read } }

abbrev pub ended_under : Rule → Running → Ended → Ended
ended_under rule began e = under rule began e.refusal e

-- A CELL of this label over a session, by the inputs and the rule
abbrev pub cell : ℕ → Parsed → World → Session → Ended
cell label p w s = ended_under w.rule (start label s) (ran w.inputs p (start label s))

abbrev pub session_after : Ended → Session
session_after e = collected (session_of e.running)

-- THE CELLS IN ORDER, from a session: what each gives, and the session after it
abbrev pub notebook : List (ℕ × Parsed) → World → Session → List (Ended × Session)
notebook [] w s = []
notebook (c ∷ cs) w s =
    let e = cell c.0 c.1 w s in (e, session_after e) ∷ notebook cs w (session_after e)
