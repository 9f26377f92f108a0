-- What functions of arrays come to, as the definitions have it.
use Rattle.std.specs.Prelude.{◌≡◌, Result, Ok, Err}
use Rattle.nd_model.specs.Cells.Fault as model
use Rattle.nd_view.specs.Faults.{view_fault_of}
use Rattle.nd_ufunc.specs.Scalar.Faults.{ufunc_fault_of}
use Rattle.nd_ufunc.specs.declared.elementwise.fault.MapFault.{MapFault}
use Rattle.nd_ufunc.specs.declared.elementwise.fault.MapFault.TheVariants.{Memory, Ufunc, View}

-- what is worked out, unless memory ran out
abbrev pub Makes : {X Y : Type 0} → (X → Y) → Result X MapFault → Result Y model.Fault → Type 0
Makes view (Ok x) y = y ≡ Ok (view x)
Makes view (Err (Memory m)) y = Unit {0}
Makes view (Err (Ufunc f)) y = y ≡ Err (model.Ufunc (ufunc_fault_of f))
Makes view (Err (View f)) y = y ≡ Err (model.View (view_fault_of f))
