-- What is broadcast of a view lies where the view lies.
use Rattle.std.proofs.Common.{◌≡◌, ℕ, List, Option, Some, None, Result, Ok, refl, subst}
use Rattle.nd_model.specs.Cells.Fault.{Fault, ViewFault}
use Rattle.nd_model.specs.Arrays.Strides.{limit_fault}
use Rattle.nd_model.specs.Arrays.View.{Geo, item_size}
use Rattle.nd_model.specs.Arrays.Broadcast.{broadcasts_to, broadcast_view, unless_fault}
use Rattle.nd_model.specs.Indexing.Stretching.{broadcast_to}
use Rattle.nd_model.specs.Cells.Sound.{LiesIn}
use Rattle.nd_model.proofs.Taking.{spread_within}
use Rattle.nd_model.proofs.Transposed.{when_ok, ok_same}

pub unless_ok : {A : Type 0} (o : Option ViewFault) (x : Result A Fault) (y : A) → unless_fault o x ≡ Ok y → (o ≡ None) × (x ≡ Ok y)
unless_ok None x y e = (refl, e)
unless_ok (Some f) x y e = absurd (cc)

pub stretched_lies : (shape : List ℕ) (g h : Geo) (len : ℕ) → LiesIn len g → broadcast_to shape g ≡ Ok h → LiesIn len h
stretched_lies shape g h len lies e =
    let limited = unless_ok (limit_fault (item_size g.element) shape) _ h e in
    let fits = when_ok (broadcasts_to g.shape shape) _ _ h limited.1 in
    let within = spread_within len g shape lies fits.0 in
    subst (LiesIn len) (ok_same (broadcast_view g shape) h fits.1) (record { count = within.0; limits = limited.0; inside = within.1 })
