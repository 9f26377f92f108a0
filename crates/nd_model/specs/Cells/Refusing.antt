-- What is worked out without a question, and may be refused: the first refusal stands.
use Rattle.std.specs.Prelude.{Bool, if◌then◌else◌, Result, Ok, Err}
use Rattle.nd_model.specs.Cells.Fault.{Fault}

infixl 10 ◌>>=◌
abbrev pub ◌>>=◌ : {A B : Type 0} → Result A Fault → (A → Result B Fault) → Result B Fault
(Ok x) >>= f = f x
(Err e) >>= f = Err e

-- goes on where the test holds, and is refused elsewhere
abbrev pub when : {A : Type 0} → Bool → Fault → Result A Fault → Result A Fault
when b f then_this = if b then then_this else Err f
