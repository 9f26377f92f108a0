-- What indexes with arrays come to, as the definitions have it.
use Rattle.std.specs.Prelude.{◌≡◌, Result, Ok, Err}
use Rattle.nd_model.specs.Cells.Fault as model
use Rattle.nd_view.specs.Faults.{view_fault_of}
use Rattle.nd_index.specs.declared.basic.fault.SelectFault.{SelectFault}
use Rattle.nd_index.specs.declared.basic.fault.SelectFault.TheVariants as select
use Rattle.nd_index.specs.declared.items.fault.ItemFault.{ItemFault}
use Rattle.nd_index.specs.declared.items.fault.ItemFault.TheVariants.{TwoEllipses, TooManyIndices, ZeroStep, OutOfBounds, MaskShape, IndexShapes}
use Rattle.nd_index.specs.declared.items.fault.FancyFault.{FancyFault}
use Rattle.nd_index.specs.declared.items.fault.FancyFault.TheVariants.{Memory, Index, View}

abbrev pub fault_of : ItemFault → model.IndexFault
fault_of TwoEllipses = model.TwoEllipses
fault_of TooManyIndices = model.TooManyIndices
fault_of ZeroStep = model.ZeroStep
fault_of (OutOfBounds axis index size) = model.OutOfBounds axis index size
fault_of (MaskShape axis) = model.MaskShape axis
fault_of IndexShapes = model.IndexShapes

-- a refusal of the slices
abbrev pub fault_of_select : SelectFault → FancyFault
fault_of_select select.TwoEllipses = Index TwoEllipses
fault_of_select select.TooManyIndices = Index TooManyIndices
fault_of_select select.ZeroStep = Index ZeroStep
fault_of_select (select.OutOfBounds axis index size) = Index (OutOfBounds axis index size)
fault_of_select (select.View f) = View f

-- what is chosen, unless memory ran out
abbrev pub Makes : {X Y : Type 0} → (X → Y) → Result X FancyFault → Result Y model.Fault → Type 0
Makes view (Ok x) y = y ≡ Ok (view x)
Makes view (Err (Memory m)) y = Unit {0}
Makes view (Err (Index f)) y = y ≡ Err (model.Index (fault_of f))
Makes view (Err (View f)) y = y ≡ Err (model.View (view_fault_of f))
