-- What the parts of an evaluation stand for.
use Rattle.std.specs.Prelude.{List, [], ◌∷◌, ◌++◌, Option, Some, None, map, Vec}
use Rattle.std.specs.Global.{Global}
use Rattle.nd_model.specs.Arrays.Value as model
use Rattle.nd_model.specs.Making.Operand as operand
use Rattle.nd_model.specs.Indexing.Viewing.{Viewing, Fielded, Transposed, Reshaped, ViewedAs}
use Rattle.nd_syntax.specs.Trees.Calls.{dtype_of}
use Rattle.nd_heap.specs.declared.value.Value.{Value}
use Rattle.nd_heap.specs.Values.{value_of}
use Rattle.nd_operation.specs.declared.operators.operand.Operand.{Operand}
use Rattle.nd_eval.specs.declared.choosing.indexes.ItemValue.{ItemValue}
use Rattle.nd_eval.specs.declared.choosing.indexes.ItemValue.TheVariants as item
use Rattle.nd_eval.specs.declared.choosing.indexes.IndexValue.{IndexValue}
use Rattle.nd_eval.specs.declared.choosing.indexes.IndexValue.TheVariants as index
use Rattle.nd_operation.specs.Operators.Contents.{operand_of}
use Rattle.nd_eval.specs.Choosing.Indexing.{form_of}
use Rattle.nd_eval.specs.Parts.{ItemParts, IndexParts, parts_of_items, unused}
use Rattle.nd_eval.specs.declared.views.ViewMethod.{ViewMethod}
use Rattle.nd_eval.specs.declared.views.ViewMethod.TheVariants.{Transpose, Reshape, ViewAs}

-- the value that there may be
abbrev pub option_values : Option Value → List model.Value
option_values None = []
option_values (Some v) = value_of v ∷ []

abbrev pub values_of : Vec Value Global → List model.Value
values_of vs = map value_of vs.items

abbrev pub operands_of : Vec Operand Global → List operand.Operand
operands_of os = map operand_of os.items

-- ---- views

abbrev pub viewing_of : ViewMethod → Viewing
viewing_of Transpose = Transposed
viewing_of Reshape = Reshaped
viewing_of (ViewAs t) = ViewedAs (dtype_of t.now)

-- ---- indexes

abbrev pub used_of : ItemValue → List (operand.Usage × model.Value)
used_of (item.At v) = (operand.ArraysOnly, value_of v) ∷ []
used_of (item.Slice start stop step) = unused (option_values start ++ option_values stop ++ option_values step)
used_of item.Ellipsis = []
used_of item.NewAxis = []
used_of item.Empty = []

abbrev pub item_of : ItemValue → ItemParts
item_of x = (form_of x, used_of x)

abbrev pub items_of : Vec ItemValue Global → List ItemParts
items_of xs = map item_of xs.items

abbrev pub index_of : IndexValue → IndexParts
index_of (index.Field n) = (Fielded n.now, [])
index_of (index.Items xs) = parts_of_items (items_of xs)
