-- Parts in turn, whose answers make a list.
use Rattle.std.proofs.Common.{◌≡◌, ◌+◌, List, [], ◌∷◌, ◌++◌, length, Result, Ok, Err, refl, sym, ap, ◌∙◌, arith, append_assoc, append-nil, length-append}
use mathlib.Core.Path.{fun_ext}
use Rattle.nd_model.specs.Cells.Fault.{Fault}
use Rattle.nd_model.specs.Arrays.Value as model
use Rattle.nd_model.specs.Grammar.Syntax as syntax
use Rattle.nd_model.specs.Grammar.Syntax.{Expr}
use Rattle.nd_model.specs.Cells.Running.{Running, Inputs}
use Rattle.nd_model.specs.Cells.Evaluation.{Eval, Gives, run, ◌>>=◌}
use Rattle.nd_model.specs.Cells.Meaning.{value}
use Rattle.nd_model.proofs.Steps.{goes_on, run_bind}
use Rattle.nd_operation.specs.Operators.Listing.{number_count, number_counts}
use Rattle.nd_eval.specs.Parts.{exprs_in, exprs_of_element, values_behind, values_then}
use Rattle.nd_eval.specs.Ends.{Ends}
use Rattle.nd_eval.proofs.Chains.{goes}

-- the answers so far stand before the others
abbrev pub onto : {A : Type 0} → List A → List A → Eval (List A)
onto done xs = Gives (done ++ xs)

-- one answer more
pub onto_more : {A X : Type 0} (v : X → A) (i : Inputs) (t : Eval A) (rest : (List A → Eval (List A)) → Eval (List A)) (done : List A) (r s : Running) (x : X)
    → Ends v (Ok x) s (run i t r) → run i (t >>= λ a. rest (λ xs. onto done (a ∷ xs))) r ≡ run i (rest (onto (done ++ v x ∷ []))) s
onto_more {A} v i t rest done r s x first =
    let same : ◌≡◌ {A = List A → Eval (List A)} (λ xs. Gives (done ++ v x ∷ xs)) (λ xs. Gives ((done ++ v x ∷ []) ++ xs)) =
    fun_ext (λ xs. ap Gives (sym (append_assoc done (v x ∷ []) xs))) in
    goes v i t (λ a. rest (λ xs. onto done (a ∷ xs))) r s x first ∙ ap (λ k. run i (rest k) s) same

-- ---- expressions behind others

one_behind : (before : List model.Value) (v : model.Value) → ◌≡◌ {A = List model.Value → Eval (List model.Value)} (λ ws. Gives (before ++ v ∷ ws)) (λ ws. Gives ((before ++ v ∷ []) ++ ws))
one_behind before v = fun_ext (λ ws. ap Gives (sym (append_assoc before (v ∷ []) ws)))

behind-append : (i : Inputs) (before : List model.Value) (es fs : List Expr) (r : Running)
    → run i (values_behind before (es ++ fs)) r ≡ goes_on i (run i (values_behind before es) r) (λ found. values_behind found fs)
behind-append i before [] fs r = ap (λ vs. run i (values_behind vs fs) r) (sym (append-nil before))
behind-append i before (e ∷ es) fs r =
    run_bind i (value e) (λ v. values_then (es ++ fs) (λ ws. Gives (before ++ v ∷ ws))) r
    ∙ after_one (λ v. behind-append i (before ++ v ∷ []) es fs) (run i (value e) r)
    ∙ sym (ap (λ m. goes_on i m (λ found. values_behind found fs)) (run_bind i (value e) (λ v. values_then es (λ ws. Gives (before ++ v ∷ ws))) r))
  where
    after_one : ((v : model.Value) (q : Running) → run i (values_behind (before ++ v ∷ []) (es ++ fs)) q ≡ goes_on i (run i (values_behind (before ++ v ∷ []) es) q) (λ found. values_behind found fs))
        → (m : Result model.Value Fault × Running) → goes_on i m (λ v. values_then (es ++ fs) (λ ws. Gives (before ++ v ∷ ws)))
        ≡ goes_on i (goes_on i m (λ v. values_then es (λ ws. Gives (before ++ v ∷ ws)))) (λ found. values_behind found fs)
    after_one next (Ok v, q) =
        ap (λ k. run i (values_then (es ++ fs) k) q) (one_behind before v) ∙ next v q
        ∙ sym (ap (λ k. goes_on i (run i (values_then es k) q) (λ found. values_behind found fs)) (one_behind before v))
    after_one next (Err f, q) = refl

-- first the ones, and then the others behind them
pub behind_others : (i : Inputs) (before : List model.Value) (es fs : List Expr) (r : Running)
    → run i (values_behind before (es ++ fs)) r ≡ run i (values_behind before es >>= λ found. values_behind found fs) r
behind_others i before es fs r = behind-append i before es fs r ∙ sym (run_bind i (values_behind before es) (λ found. values_behind found fs) r)

-- there are as many values as expressions
pub as_many : (i : Inputs) (before : List model.Value) (es : List Expr) (r s : Running) (found : List model.Value)
    → run i (values_behind before es) r ≡ (Ok found, s) → length found ≡ length before + length es
as_many i before [] r s found h =
    let same : ◌≡◌ {A = Result (List model.Value) Fault} (Ok (before ++ [])) (Ok found) = ap (λ (m : Result (List model.Value) Fault × Running). m.0) h in
    let is : before ++ [] ≡ found = cc in
    omega (arith, ap length is, length-append before [])
as_many i before (e ∷ es) r s found h =
    after_one (λ v q. as_many i (before ++ v ∷ []) es q s found) (run i (value e) r) (sym (run_bind i (value e) (λ v. values_then es (λ ws. Gives (before ++ v ∷ ws))) r) ∙ h)
  where
    after_one : ((v : model.Value) (q : Running) → run i (values_behind (before ++ v ∷ []) es) q ≡ (Ok found, s) → length found ≡ length (before ++ v ∷ []) + length es)
        → (m : Result model.Value Fault × Running) → goes_on i m (λ v. values_then es (λ ws. Gives (before ++ v ∷ ws))) ≡ (Ok found, s) → length found ≡ length before + length (e ∷ es)
    after_one next (Ok v, q) h =
        omega (arith, next v q (sym (ap (λ k. run i (values_then es k) q) (one_behind before v)) ∙ h), length-append before (v ∷ []))
    after_one next (Err f, q) h = let same : ◌≡◌ {A = Result (List model.Value) Fault} (Err f) (Ok found) = ap (λ (m : Result (List model.Value) Fault × Running). m.0) h in absurd (cc)

-- as many as a list has numbers
mutual
  pub many_in : (es : syntax.Elements) → length (exprs_in es) ≡ number_counts es
  many_in syntax.NoElement = refl
  many_in (syntax.AndElement x xs) = omega (arith, length-append (exprs_of_element x) (exprs_in xs), many_of_element x, many_in xs)

  pub many_of_element : (x : syntax.Element) → length (exprs_of_element x) ≡ number_count x
  many_of_element (syntax.Single e) = refl
  many_of_element (syntax.Nested es) = many_in es
