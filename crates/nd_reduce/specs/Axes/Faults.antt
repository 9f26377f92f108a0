-- What reductions come to, as the definitions have it.
use Rattle.std.specs.Prelude.{◌≡◌, Result, Ok, Err}
use Rattle.nd_model.specs.Cells.Fault as model
use Rattle.nd_model.specs.Making.ReduceFault as reduce
use Rattle.nd_view.specs.Faults.{view_fault_of}
use Rattle.nd_reduce.specs.declared.axes.fault.AxisFault.{AxisFault}
use Rattle.nd_reduce.specs.declared.axes.fault.AxisFault.TheVariants.{Memory, NotNumbers, NoAxis, EmptyReduce, View}

-- what is worked out, unless memory ran out
abbrev pub Makes : {X Y : Type 0} → (X → Y) → Result X AxisFault → Result Y model.Fault → Type 0
Makes view (Ok x) y = y ≡ Ok (view x)
Makes view (Err (Memory m)) y = Unit {0}
Makes view (Err NotNumbers) y = y ≡ Err (model.Reduce reduce.NotNumbers)
Makes view (Err NoAxis) y = y ≡ Err (model.Reduce reduce.NoAxis)
Makes view (Err EmptyReduce) y = y ≡ Err (model.Reduce reduce.EmptyReduce)
Makes view (Err (View f)) y = y ≡ Err (model.View (view_fault_of f))
