-- Refusals of what is worked out.
use Rattle.std.proofs.Common.{◌≡◌, Result, Err, IsErrAnd, sym, ap, ◌∙◌, subst}
use Rattle.std.proofs.lemmas.Result.{err_from_is_err_and}
use Rattle.nd_model.specs.Cells.Fault.{Fault}
use Rattle.nd_model.specs.Cells.Refusing as refusing
use Rattle.nd_memory.specs.Want.{out_of_memory}
use Rattle.nd_ufunc.specs.Elementwise.Faults as mapping
use Rattle.nd_ufunc.specs.declared.elementwise.fault.MapFault.{MapFault}
use Rattle.nd_ufunc.specs.declared.elementwise.fault.MapFault.TheVariants as map_fault
use Rattle.nd_operation.specs.declared.refusals.fault.StmtFault.{StmtFault}
use Rattle.nd_operation.specs.declared.refusals.fault.StmtFault.TheVariants as stmt_fault
use Rattle.nd_operation.specs.declared.refusals.stop.Stop.{Stop}
use Rattle.nd_operation.specs.declared.refusals.stop.Stop.TheVariants.{Memory, Refused}
use Rattle.nd_operation.specs.Refusals.Ends.{Says, Makes}
use Rattle.nd_operation.specs.Refusals.Faults.{fault_of}
use Rattle.nd_operation.specs.Refusals.Stops.{map_stop}

-- a refusal that is told
pub makes_refused : {A Y : Type 0} (w : Y → A) (m : Result A Fault) (f : StmtFault) (o : Result Y Stop) → IsErrAnd o (λ x. x ≡ Refused f) → m ≡ Err (fault_of f) → Makes w o m
makes_refused {A} {Y} w m f o is h =
    let p : (x : Stop) × (o ≡ Err x) × (x ≡ Refused f) = err_from_is_err_and o is in
    subst (λ (o : Result Y Stop). Makes w o m) (sym (p.1 ∙ ap Err p.2)) h

-- the exit by `?` where memory ran out
pub makes_memory : {A Y : Type 0} (w : Y → A) (m : Result A Fault) (o : Result Y Stop) → IsErrAnd o (λ x. x ≡ Memory out_of_memory) → Makes w o m
makes_memory {A} {Y} w m o is =
    let p : (x : Stop) × (o ≡ Err x) × (x ≡ Memory out_of_memory) = err_from_is_err_and o is in
    subst (λ (o : Result Y Stop). Makes w o m) (sym (p.1 ∙ ap Err p.2)) tt

-- a refusal that is told, of what takes no memory
pub says_refused : {B Y : Type 0} (w : Y → B) (m : Result B Fault) (e : StmtFault) (o : Result Y StmtFault) → IsErrAnd o (λ x. x ≡ e) → m ≡ Err (fault_of e) → Says w o m
says_refused {B} {Y} w m e o is h =
    let p : (x : StmtFault) × (o ≡ Err x) × (x ≡ e) = err_from_is_err_and o is in
    subst (λ (o : Result Y StmtFault). Says w o m) (sym (p.1 ∙ ap Err p.2)) h

-- and where what comes first is refused
pub says_not : {A B Y : Type 0} (w : Y → B) (t : Result A Fault) (f : A → Result B Fault) (e : StmtFault) (o : Result Y StmtFault)
    → IsErrAnd o (λ x. x ≡ e) → t ≡ Err (fault_of e) → Says w o (refusing.◌>>=◌ t f)
says_not {A} {B} {Y} w t f e o is h =
    let p : (x : StmtFault) × (o ≡ Err x) × (x ≡ e) = err_from_is_err_and o is in
    subst (λ (o : Result Y StmtFault). Says w o (refusing.◌>>=◌ t f)) (sym (p.1 ∙ ap Err p.2)) (ap (λ m. refusing.◌>>=◌ m f) h)

-- what a function takes no arrays for is told
pub makes_mapped : {A X Y : Type 0} (v : X → A) (w : Y → A) (m : Result A Fault) (f : MapFault) (o : Result Y Stop) → IsErrAnd o (λ x. x ≡ map_stop f) → mapping.Makes v (Err f) m → Makes w o m
makes_mapped {A} {X} {Y} v w m (map_fault.Memory want) o is h =
    let p : (x : Stop) × (o ≡ Err x) × (x ≡ Memory out_of_memory) = err_from_is_err_and o is in
    subst (λ (o : Result Y Stop). Makes w o m) (sym (p.1 ∙ ap Err p.2)) tt
makes_mapped v w m (map_fault.Ufunc f) o is h = makes_refused w m (stmt_fault.Ufunc f) o is h
makes_mapped v w m (map_fault.View f) o is h = makes_refused w m (stmt_fault.View f) o is h
