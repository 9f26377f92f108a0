use Rattle.std.proofs.Common.{ℕ, List, Ok, Err, Result, ap, subst}
use Rattle.nd_model.specs.Arrays.View.{Geo}
use Rattle.nd_model.specs.Cells.Refusing.{◌>>=◌}
use Rattle.nd_model.specs.Cells.Fault.{Fault}
use Rattle.nd_ufunc.specs.Elementwise.Faults.{Makes}
use Rattle.nd_ufunc.specs.declared.elementwise.fault.MapFault.{MapFault}
use Rattle.nd_ufunc.specs.declared.elementwise.fault.MapFault.TheVariants.{Memory, Ufunc, View}
use Rattle.nd_ufunc.proofs.elementwise.map.with_block.Goals as goal

-- a refusal stays
lifts : (g : List ℕ → Result (Geo × List ℕ) Fault) (f : MapFault) (made : Result (List ℕ) Fault)
    → Makes {X = List ℕ} {Y = List ℕ} (λ b. b) (Err f) made → Makes {X = Geo × List ℕ} {Y = Geo × List ℕ} (λ m. m) (Err f) (made >>= g)
lifts g (Memory m) made is = tt
lifts g (Ufunc f) made is = ap (λ r. r >>= g) is
lifts g (View f) made is = ap (λ r. r >>= g) is

pub returns-in-Ok : goal.returns-in-Ok
returns-in-Ok c = λ made is.
    ap (λ r. r >>= (λ b. Ok (c.args.view, b))) (subst (λ r. Makes {X = List ℕ} {Y = List ℕ} (λ b. b) r made) c.in-Ok.is is)

pub returns-in-Err : goal.returns-in-Err
returns-in-Err c = λ made is.
    lifts (λ b. Ok (c.args.view, b)) c.in-Err.fault made (subst (λ r. Makes {X = List ℕ} {Y = List ℕ} (λ b. b) r made) c.in-Err.is is)
