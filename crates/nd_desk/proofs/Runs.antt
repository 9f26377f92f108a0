-- What holds for some places of the cells that ran, or for all.
use Rattle.std.proofs.Common.{List, ℕ, Result, Ok, Err}
use Rattle.std.specs.Prelude.{IfErr, IfOk, OnOk}

-- places that are there in the end
pub some_ok : {T E : Type 0} (r : Result T E) (P : List ℕ → Type 0) (ran : List ℕ) → OnOk r (P ran) → OnOk r ((places : List ℕ) × P places)
some_ok (Ok x) P ran given = (ran, given)
some_ok (Err e) P ran given = tt

pub some_err : {T E : Type 0} (r : Result T E) (P : E → List ℕ → Type 0) (ran : List ℕ) → IfErr r (λ e. P e ran) → IfErr r (λ e. (places : List ℕ) × P e places)
some_err (Ok x) P ran given = tt
some_err (Err e) P ran given = (ran, given)

-- what holds of a result for all states, for one of them
pub for_one : {T E X : Type 0} (r : Result T E) (P : T → X → Type 0) (x : X) → IfOk r (λ t. (y : X) → P t y) → IfOk r (λ t. P t x)
for_one (Ok t) P x given = given x
for_one (Err e) P x given = tt
