-- What is made of other shapes, as the definitions have it.
use Rattle.std.specs.Prelude.{ℕ, List, Result, Ok, Err}
use Rattle.nd_model.specs.Indexing.Reshaping as model
use Rattle.nd_model.specs.Cells.Fault.{Fault}
use Rattle.nd_shape.specs.Faults.{fault_of}
use Rattle.nd_shape.specs.declared.fault.ShapeFault.{ShapeFault}
use Rattle.nd_shape.specs.declared.reshaping.Reshaped.{Reshaped}
use Rattle.nd_shape.specs.declared.reshaping.Reshaped.TheVariants.{View, Copy}

-- lengths, or why there are none
abbrev pub shape_given : {A : Type 0} → (A → List ℕ) → Result A ShapeFault → Result (List ℕ) Fault
shape_given items (Ok a) = Ok (items a)
shape_given items (Err e) = Err (fault_of e)

abbrev pub reshaped_of : Reshaped → model.Reshaped
reshaped_of (View g) = model.View g
reshaped_of (Copy s) = model.Copy s.items

abbrev pub reshaped_given : Result Reshaped ShapeFault → Result model.Reshaped Fault
reshaped_given (Ok r) = Ok (reshaped_of r)
reshaped_given (Err e) = Err (fault_of e)
