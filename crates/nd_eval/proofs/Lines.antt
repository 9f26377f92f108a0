-- Effects that print lines that may be too long.
use Rattle.std.proofs.Common.{◌≡◌, leb, true, false, cond, List, length, Result, Ok, Err, IsErrAnd, refl, sym, ap, subst}
use Rattle.std.proofs.lemmas.Result.{err_from_is_err_and}
use Rattle.nd_model.specs.Cells.Fault.{Fault, Stmt, TextTooLong}
use Rattle.nd_model.specs.Arrays.Value as model
use Rattle.nd_model.specs.Cells.Running.{Running, Inputs, Effect, Nothing, Prints, Saves, Binding, Unbinding, Storing, Output, output}
use Rattle.nd_model.specs.Cells.Evaluation.{Gives, run, ◌>>=◌, decide}
use Rattle.nd_model.specs.Making.Operand.{Operand, Usage}
use Rattle.nd_model.specs.Cells.Operation.{do_deed}
use Rattle.nd_model.specs.Text.Printing.{printed_line, print_deed}
use Rattle.nd_model.specs.Cells.Cell.{most_text, had}
use Rattle.nd_operation.specs.declared.refusals.stop.Stop.{Stop}
use Rattle.nd_operation.specs.declared.refusals.stop.Stop.TheVariants.{Memory, Refused}
use Rattle.nd_eval.specs.Ends.{Ends}
use Rattle.nd_model.specs.Cells.Cell.{limit_text}
use Rattle.nd_operation.specs.Operators.Lines.{limit_line}
use Rattle.nd_eval.specs.Lines.{limit_effect}

-- ---- effects

-- a refusal stays
pub limit_exits : {Y : Type 0} (w : Y → Effect) (o : Result Y Stop) (e : Stop) (s : Running) (m : Result Effect Fault × Running) → IsErrAnd o (λ x. x ≡ e) → Ends w o s m → Ends w o s (limit_effect m)
limit_exits {Y} w o e s m is h =
    let p : (x : Stop) × (o ≡ Err x) × (x ≡ e) = err_from_is_err_and o is in
    subst (λ (o : Result Y Stop). Ends w o s (limit_effect m)) (sym p.1) (go p.0 (subst (λ (o : Result Y Stop). Ends w o s m) p.1 h))
  where
    go : (x : Stop) → Ends w (Err x) s m → Ends w (Err x) s (limit_effect m)
    go (Memory m) h = tt
    go (Refused f) h = ap limit_effect h

-- the line that is printed
pub limit_printed : (i : Inputs) (os : List Operand) (vs : List (Usage × model.Value)) (r : Running)
    → limit_effect (run i (decide (print_deed os) >>= do_deed vs) r) ≡ run i (decide (limit_line (printed_line os)) >>= λ t. Gives (Prints t)) r
limit_printed i os vs r =
    elim (leb (length (printed_line os)) most_text)
    as (λ b. ◌≡◌ {A = Result Effect Fault × Running} (cond b (Ok (Prints (printed_line os))) (Err (Stmt TextTooLong)), r)
    (run i (decide (cond b (Ok (printed_line os)) (Err (Stmt TextTooLong))) >>= λ t. Gives (Prints t)) r)) [ true ↦ refl | false ↦ refl ]

-- what a statement gives to its cell
pub limit_had : (m : Result Effect Fault × Running) → limit_text (had m) ≡ had (limit_effect m)
limit_had (Ok Nothing, r) = refl
limit_had (Ok (Saves n f), r) = refl
limit_had (Ok (Binding n v), r) = refl
limit_had (Ok (Unbinding n), r) = refl
limit_had (Ok (Storing b ws), r) = refl
limit_had (Err f, r) = refl
limit_had (Ok (Prints t), r) =
    elim (leb (length t) most_text)
    as (λ b. ◌≡◌ {A = Result Output Fault × Running} (cond b (Ok (output (Prints t))) (Err (Stmt TextTooLong)), r) (had (cond b (Ok (Prints t)) (Err (Stmt TextTooLong)), r))) [ true ↦ refl | false ↦ refl ]

-- the limit leaves the session, and an effect that it leaves is the same
pub limit_given : (m : Result Effect Fault × Running) (e : Effect) (s : Running) → limit_effect m ≡ (Ok e, s) → m ≡ (Ok e, s)
limit_given (Ok Nothing, r) e s h = h
limit_given (Ok (Saves n f), r) e s h = h
limit_given (Ok (Binding n v), r) e s h = h
limit_given (Ok (Unbinding n), r) e s h = h
limit_given (Ok (Storing b ws), r) e s h = h
limit_given (Err f, r) e s h = h
limit_given (Ok (Prints t), r) e s h =
    (elim (leb (length t) most_text) as (λ b. ◌≡◌ {A = Result Effect Fault × Running} (cond b (Ok (Prints t)) (Err (Stmt TextTooLong)), r) (Ok e, s) → ◌≡◌ {A = Result Effect Fault × Running} (Ok (Prints t), r) (Ok e, s))
    [ true ↦ λ h. h | false ↦ λ h. (let same : ◌≡◌ {A = Result Effect Fault} (Err (Stmt TextTooLong)) (Ok e) = ap (λ (m : Result Effect Fault × Running). m.0) h in absurd (cc)) ]) h

pub limit_session : (m : Result Effect Fault × Running) → (limit_effect m).1 ≡ m.1
limit_session (Ok Nothing, r) = refl
limit_session (Ok (Prints t), r) = refl
limit_session (Ok (Saves n f), r) = refl
limit_session (Ok (Binding n v), r) = refl
limit_session (Ok (Unbinding n), r) = refl
limit_session (Ok (Storing b ws), r) = refl
limit_session (Err f, r) = refl
