-- How an evaluation ends.
use Rattle.std.specs.Prelude.{◌≡◌, Result, Ok, Err}
use Rattle.nd_model.specs.Cells.Fault.{Fault}
use Rattle.nd_model.specs.Cells.Running.{Running, Effect}
use Rattle.nd_model.specs.Cells.Evaluation.{Eval, run}
use Rattle.nd_session.specs.Session.Live.{live}
use Rattle.nd_session.specs.Inputs.Values.{inputs_of}
use Rattle.nd_operation.specs.declared.refusals.stop.Stop.{Stop}
use Rattle.nd_operation.specs.declared.refusals.stop.Stop.TheVariants.{Memory, Refused}
use Rattle.nd_eval.specs.declared.evaluator.Evaluator.{Evaluator}
use Rattle.nd_operation.specs.Refusals.Faults.{fault_of}
use Rattle.nd_eval.specs.Lines.{limit_effect}

-- as the definitions have it, unless memory ran out
abbrev pub Ends : {X Y : Type 0} → (X → Y) → Result X Stop → Running → Result Y Fault × Running → Type 0
Ends view (Ok x) r ended = ended ≡ (Ok (view x), r)
Ends view (Err (Memory m)) r ended = Unit {0}
Ends view (Err (Refused f)) r ended = ended ≡ (Err (fault_of f), r)

-- the session that is asked, as it stands
abbrev pub session_of : Evaluator → Running
session_of e = live e.session.now

-- it asks the same session still, over the same inputs
abbrev pub Stays : Evaluator → Evaluator → Type 0
Stays old new = (new.session.ghost_name ≡ old.session.ghost_name) × (new.inputs ≡ old.inputs)

-- what an evaluation gives over the session as it stands, and the session after it
abbrev pub answer_of : {Y : Type 0} → Evaluator → Eval Y → Result Y Fault × Running
answer_of e t = run (inputs_of e.inputs.now.entries) t (session_of e)

-- what the evaluation gives, the session after it, and that the evaluator holds it still
abbrev pub Evaluates : {X Y : Type 0} → (X → Y) → Result X Stop → Evaluator → Eval Y → Evaluator → Type 0
Evaluates view result old t new = Ends view result (session_of new) (answer_of old t) × Stays old new

-- the same of an effect, where a printed text over the limit is refused
abbrev pub EvaluatesInLimit : {X : Type 0} → (X → Effect) → Result X Stop → Evaluator → Eval Effect → Evaluator → Type 0
EvaluatesInLimit view result old t new = Ends view result (session_of new) (limit_effect (answer_of old t)) × Stays old new
