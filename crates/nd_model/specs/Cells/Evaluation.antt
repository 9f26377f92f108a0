-- Evaluations: what is asked, one question after the other, and what is given or refused in the end.
use Rattle.std.specs.Prelude.{Result, Ok, Err}
use Rattle.nd_model.specs.Cells.Running.{Running, Inputs, Act, Reply, reply, after}
use Rattle.nd_model.specs.Cells.Fault.{Fault}

-- an evaluation: a value, a refusal, or a question and how it goes on with each answer
pub data Eval (A : Type 0) : Type 0 where
  Gives : A → Eval A
  Refuses : Fault → Eval A
  Asks : (a : Act) → (Reply a → Eval A) → Eval A

-- what it gives, and the session after it
abbrev pub run : {A : Type 0} → Inputs → Eval A → Running → Result A Fault × Running
run inputs (Gives x) r = (Ok x, r)
run inputs (Refuses f) r = (Err f, r)
run inputs (Asks a go) r = run inputs (go (reply inputs a r)) (after a r)

infixl 10 ◌>>=◌
abbrev pub ◌>>=◌ : {A B : Type 0} → Eval A → (A → Eval B) → Eval B
(Gives x) >>= f = f x
(Refuses e) >>= f = Refuses e
(Asks a go) >>= f = Asks a (λ x. go x >>= f)

-- what is worked out without a question
abbrev pub decide : {A : Type 0} → Result A Fault → Eval A
decide (Ok x) = Gives x
decide (Err f) = Refuses f
