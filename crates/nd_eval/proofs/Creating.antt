-- Evaluations of what is made.
use Rattle.std.proofs.Common.{◌≡◌, Result, Ok, Err, IsErrAnd, refl, sym, ap, subst, ◌∙◌}
use Rattle.std.proofs.lemmas.Result.{err_from_is_err_and}
use Rattle.nd_model.specs.Cells.Fault.{Fault}
use Rattle.nd_model.specs.Cells.Running.{Running, Inputs}
use Rattle.nd_model.specs.Cells.Evaluation.{Gives, run, ◌>>=◌, decide}
use Rattle.nd_model.specs.Making.Operand.{Made}
use Rattle.nd_model.specs.Cells.Operation.{give}
use Rattle.nd_types.specs.declared.num.Num.{Num}
use Rattle.nd_types.specs.declared.num.Num.TheVariants as num
use Rattle.nd_heap.specs.declared.value.Value.{Value}
use Rattle.nd_heap.specs.declared.value.Value.TheVariants as found
use Rattle.nd_heap.specs.Values.{number_of, value_of}
use Rattle.nd_operation.specs.declared.refusals.stop.Stop.{Stop}
use Rattle.nd_operation.specs.declared.refusals.stop.Stop.TheVariants.{Memory, Refused}
use Rattle.nd_operation.specs.declared.operators.operand.New.{New}
use Rattle.nd_operation.specs.Operators.Contents.{number_made}
use Rattle.nd_eval.specs.Ends.{Ends}
use Rattle.nd_operation.specs.Operators.New.{given, MakesNew}

pub gives_number : (n : Num) → give (number_made n) ≡ Gives (number_of n)
gives_number (num.Int z) = refl
gives_number (num.Bool t) = refl
gives_number (num.Scalar k z) = refl

pub given_number : (i : Inputs) (n : Num) (r : Running) → Ends value_of (Ok (found.Number n)) r (run i (give (number_made n)) r)
given_number i n r = ap (λ t. run i t r) (gives_number n)

-- ---- an evaluation of what is made

stopped_making : (i : Inputs) (m : Result Made Fault) (r : Running) (e : Stop) → MakesNew (Err e) m → Ends value_of (Err e) r (run i (decide m >>= give) r)
stopped_making i m r (Memory want) h = tt
stopped_making i m r (Refused f) h = ap (λ t. run i t r) h

pub exits_new : (i : Inputs) (m : Result Made Fault) (r : Running) (e : Stop) (o : Result Value Stop) → IsErrAnd o (λ x. x ≡ e) → MakesNew (Err e) m → Ends value_of o r (run i (decide m >>= give) r)
exits_new i m r e o is h =
    let p : (x : Stop) × (o ≡ Err x) × (x ≡ e) = err_from_is_err_and o is in
    subst (λ (o : Result Value Stop). Ends value_of o r (run i (decide m >>= give) r)) (sym (p.1 ∙ ap Err p.2)) (stopped_making i m r e h)

pub follows_new : (i : Inputs) (m : Result Made Fault) (r s : Running) (n : New) (o : Result Value Stop) → MakesNew (Ok n) m → Ends value_of o s (run i (given n) r) → Ends value_of o s (run i (decide m >>= give) r)
follows_new i m r s n o h rest = subst (λ t. Ends value_of o s (run i t r)) (sym h) rest
