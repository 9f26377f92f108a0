-- The refusals of the program as the definitions have them, and what functions come to that take no memory.
use Rattle.std.specs.Prelude.{◌≡◌, Result, Ok, Err}
use Rattle.nd_model.specs.Cells.Fault as model
use Rattle.nd_ufunc.specs.declared.scalar.fault.UfuncFault.{UfuncFault}
use Rattle.nd_ufunc.specs.declared.scalar.fault.UfuncFault.TheVariants.{FloatResult, IntOutOfRange, BoolOp, KindCast, NegativePower, ShapeMismatch, ReadOnly, NotNumbers}

abbrev pub ufunc_fault_of : UfuncFault → model.UfuncFault
ufunc_fault_of FloatResult = model.FloatResult
ufunc_fault_of (IntOutOfRange z) = model.IntOutOfRange z
ufunc_fault_of BoolOp = model.BoolOp
ufunc_fault_of KindCast = model.KindCast
ufunc_fault_of NegativePower = model.NegativePower
ufunc_fault_of ShapeMismatch = model.ShapeMismatch
ufunc_fault_of ReadOnly = model.ReadOnly
ufunc_fault_of NotNumbers = model.NotNumbers

-- as the definitions have it
abbrev pub Says : {X Y : Type 0} → (X → Y) → Result X UfuncFault → Result Y model.Fault → Type 0
Says view (Ok x) y = y ≡ Ok (view x)
Says view (Err f) y = y ≡ Err (model.Ufunc (ufunc_fault_of f))
