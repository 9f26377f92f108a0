-- An evaluation after another, and what is worked out after another.
use Rattle.std.proofs.Common.{◌≡◌, Result, Ok, Err, IsErrAnd, refl, sym, ap, ◌∙◌, subst}
use Rattle.std.proofs.lemmas.Result.{err_from_is_err_and}
use Rattle.nd_model.specs.Cells.Fault.{Fault}
use Rattle.nd_model.specs.Cells.Refusing as refusing
use Rattle.nd_model.specs.Cells.Running.{Running, Inputs}
use Rattle.nd_model.specs.Cells.Evaluation.{Eval, run, ◌>>=◌, decide}
use Rattle.nd_model.proofs.Steps.{goes_on, run_bind}
use Rattle.nd_operation.specs.declared.refusals.fault.StmtFault.{StmtFault}
use Rattle.nd_operation.specs.declared.refusals.stop.Stop.{Stop}
use Rattle.nd_operation.specs.declared.refusals.stop.Stop.TheVariants.{Memory, Refused}
use Rattle.nd_operation.specs.Refusals.Ends.{Says, Makes}
use Rattle.nd_eval.specs.Ends.{Ends}

-- a refusal of the first part, given on
pub stops : {A B X Y : Type 0} (v : X → A) (w : Y → B) (i : Inputs) (t : Eval A) (f : A → Eval B) (r s : Running) (e : Stop)
    → Ends v (Err e) s (run i t r) → Ends w (Err e) s (run i (t >>= f) r)
stops v w i t f r s (Memory m) h = tt
stops v w i t f r s (Refused e) h = run_bind i t f r ∙ ap (λ m. goes_on i m f) h

-- the exit by `?`
pub exits : {A B X Y : Type 0} (v : X → A) (w : Y → B) (i : Inputs) (t : Eval A) (f : A → Eval B) (r s : Running) (e : Stop) (o : Result Y Stop)
    → IsErrAnd o (λ x. x ≡ e) → Ends v (Err e) s (run i t r) → Ends w o s (run i (t >>= f) r)
exits {A} {B} {X} {Y} v w i t f r s e o is h =
    let p : (x : Stop) × (o ≡ Err x) × (x ≡ e) = err_from_is_err_and o is in
    subst (λ (o : Result Y Stop). Ends w o s (run i (t >>= f) r)) (sym (p.1 ∙ ap Err p.2)) (stops v w i t f r s e h)

-- a refusal is the same however an answer would be seen
pub refused_alike : {B X Y : Type 0} (v : X → B) (w : Y → B) (e : Stop) (s : Running) (m : Result B Fault × Running) → Ends v (Err e) s m → Ends w (Err e) s m
refused_alike v w (Memory want) s m h = tt
refused_alike v w (Refused f) s m h = h

-- what comes after an answer
pub follows : {A B X Y : Type 0} (v : X → A) (w : Y → B) (i : Inputs) (t : Eval A) (f : A → Eval B) (r s u : Running) (x : X) (o : Result Y Stop)
    → Ends v (Ok x) s (run i t r) → Ends w o u (run i (f (v x)) s) → Ends w o u (run i (t >>= f) r)
follows v w i t f r s u x o first rest =
    subst (λ m. Ends w o u m) (sym (run_bind i t f r ∙ ap (λ m. goes_on i m f) first)) rest

-- the same as an equation, for a last part that ends in a value
pub goes : {A B X : Type 0} (v : X → A) (i : Inputs) (t : Eval A) (f : A → Eval B) (r s : Running) (x : X)
    → Ends v (Ok x) s (run i t r) → run i (t >>= f) r ≡ run i (f (v x)) s
goes v i t f r s x first = run_bind i t f r ∙ ap (λ m. goes_on i m f) first

-- of two evaluations that are the same
pub ends_as : {Y B : Type 0} (w : Y → B) (i : Inputs) (r s : Running) (o : Result Y Stop) {a b : Eval B} → a ≡ b → Ends w o s (run i b r) → Ends w o s (run i a r)
ends_as w i r s o same h = subst (λ e. Ends w o s (run i e r)) (sym same) h

-- of two that come to the same
pub ends_alike : {Y B : Type 0} (w : Y → B) (o : Result Y Stop) (s : Running) {a b : Result B Fault × Running} → a ≡ b → Ends w o s b → Ends w o s a
ends_alike w o s same h = subst (λ e. Ends w o s e) (sym same) h

-- ---- where the first part asks nothing

pub exits_saying : {A B X Y : Type 0} (v : X → A) (w : Y → B) (i : Inputs) (t : Result A Fault) (f : A → Eval B) (r : Running) (e : StmtFault) (o : Result Y Stop)
    → IsErrAnd o (λ x. x ≡ Refused e) → Says v (Err e) t → Ends w o r (run i (decide t >>= f) r)
exits_saying v w i t f r e o is h = exits v w i (decide t) f r r (Refused e) o is (ap (λ t. run i (decide t) r) h)

pub follows_saying : {A B X Y : Type 0} (v : X → A) (w : Y → B) (i : Inputs) (t : Result A Fault) (f : A → Eval B) (r u : Running) (x : X) (o : Result Y Stop)
    → Says v (Ok x) t → Ends w o u (run i (f (v x)) r) → Ends w o u (run i (decide t >>= f) r)
follows_saying v w i t f r u x o first rest = follows v w i (decide t) f r r u x o (ap (λ t. run i (decide t) r) first) rest

-- where what is made takes memory
pub made_ends : {A X : Type 0} (v : X → A) (i : Inputs) (t : Result A Fault) (r : Running) (e : Stop) → Makes v (Err e) t → Ends v (Err e) r (run i (decide t) r)
made_ends v i t r (Memory m) h = tt
made_ends v i t r (Refused f) h = ap (λ t. run i (decide t) r) h

pub exits_making : {A B X Y : Type 0} (v : X → A) (w : Y → B) (i : Inputs) (t : Result A Fault) (f : A → Eval B) (r : Running) (e : Stop) (o : Result Y Stop)
    → IsErrAnd o (λ x. x ≡ e) → Makes v (Err e) t → Ends w o r (run i (decide t >>= f) r)
exits_making v w i t f r e o is h = exits v w i (decide t) f r r e o is (made_ends v i t r e h)

pub goes_making : {A B X : Type 0} (v : X → A) (i : Inputs) (t : Result A Fault) (f : A → Eval B) (r : Running) (x : X)
    → Makes v (Ok x) t → run i (decide t >>= f) r ≡ run i (f (v x)) r
goes_making v i t f r x first = goes v i (decide t) f r r x (ap (λ t. run i (decide t) r) first)

-- what is made of a result, once it is decided
pub decided_later : {A B C : Type 0} (i : Inputs) (m : Result A Fault) (f : A → B) (k : B → Eval C) (r : Running)
    → run i (decide (refusing.◌>>=◌ m (λ x. Ok (f x))) >>= k) r ≡ run i (decide m >>= λ x. k (f x)) r
decided_later i (Ok x) f k r = refl
decided_later i (Err e) f k r = refl

-- the exit by `?` where nothing is asked
pub makes_exit : {A X Y : Type 0} (v : X → A) (w : Y → A) (m : Result A Fault) (e : Stop) (o : Result Y Stop) → IsErrAnd o (λ x. x ≡ e) → Makes v (Err e) m → Makes w o m
makes_exit {A} {X} {Y} v w m e o is h =
    let p : (x : Stop) × (o ≡ Err x) × (x ≡ e) = err_from_is_err_and o is in
    subst (λ (o : Result Y Stop). Makes w o m) (sym (p.1 ∙ ap Err p.2)) (at e h)
  where
    at : (e : Stop) → Makes v (Err e) m → Makes w (Err e) m
    at (Memory m) h = tt
    at (Refused f) h = h
