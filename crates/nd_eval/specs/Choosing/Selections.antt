-- Elements that indexes with arrays choose, as the definitions have them.
use Rattle.std.specs.Prelude.{ℕ, List}
use Rattle.nd_model.specs.Arrays.Content.{content_in_order}
use Rattle.nd_model.specs.Making.Operand.{Made, AnArray}
use Rattle.nd_model.specs.Arrays.View.{Geo}
use Rattle.nd_operation.specs.Operators.Contents.{contents_over}
use Rattle.nd_index.specs.Advanced.Chosen.{view_at}
use Rattle.nd_index.specs.declared.items.fault.ItemFault as items_fault
use Rattle.nd_index.specs.declared.items.fault.ItemFault.TheVariants as items_faults
use Rattle.nd_index.specs.declared.items.fault.FancyFault.{FancyFault}
use Rattle.nd_index.specs.declared.items.fault.FancyFault.TheVariants as fancy_fault
use Rattle.nd_operation.specs.declared.refusals.fault.IndexFault.{IndexFault}
use Rattle.nd_operation.specs.declared.refusals.fault.IndexFault.TheVariants.{TwoEllipses, TooManyIndices, ZeroStep, OutOfBounds, MaskShape, IndexShapes}
use Rattle.nd_operation.specs.declared.refusals.fault.StmtFault.TheVariants.{Index, View}
use Rattle.nd_operation.specs.declared.refusals.stop.Stop.{Stop}
use Rattle.nd_operation.specs.declared.refusals.stop.Stop.TheVariants.{Memory, Refused}
use Rattle.nd_eval.specs.declared.choosing.selection.Selection.{Selection}

-- the elements as a view
abbrev pub selected : Selection → Geo
selected s = view_at s.view s.places

-- a new array of elements in these bytes
abbrev pub copy_of : Geo → List ℕ → Made
copy_of g bytes = AnArray g.element g.shape (content_in_order g.shape (contents_over g bytes))

abbrev pub index_fault_of : items_fault.ItemFault → IndexFault
index_fault_of items_faults.TwoEllipses = TwoEllipses
index_fault_of items_faults.TooManyIndices = TooManyIndices
index_fault_of items_faults.ZeroStep = ZeroStep
index_fault_of (items_faults.OutOfBounds axis index size) = OutOfBounds axis index size
index_fault_of (items_faults.MaskShape axis) = MaskShape axis
index_fault_of items_faults.IndexShapes = IndexShapes

abbrev pub fancy_stop : FancyFault → Stop
fancy_stop (fancy_fault.Memory m) = Memory m
fancy_stop (fancy_fault.Index f) = Refused (Index (index_fault_of f))
fancy_stop (fancy_fault.View f) = Refused (View f)
