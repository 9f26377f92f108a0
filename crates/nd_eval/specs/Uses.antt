-- The uses of values: what is noted of them, and the operands that they are in their blocks.
use Rattle.std.specs.Prelude.{◌≡◌, Bool, true, false, List, [], ◌∷◌}
use Rattle.nd_model.specs.Making.Operand as operand
use Rattle.nd_model.specs.Arrays.View.{ElementType, byte_places}
use Rattle.nd_model.specs.Cells.Running.{Running, Use, after}
use Rattle.nd_heap.specs.declared.value.Value.{Value}
use Rattle.nd_heap.specs.declared.value.Value.TheVariants.{Number, Array, Row}
use Rattle.nd_heap.specs.Values.{base_of, geo_of}
use Rattle.nd_eval.specs.declared.choosing.indexes.ItemValue.{ItemValue}
use Rattle.nd_eval.specs.declared.choosing.indexes.ItemValue.TheVariants as item
use Rattle.nd_eval.specs.declared.choosing.indexes.IndexValue.{IndexValue}
use Rattle.nd_eval.specs.declared.choosing.indexes.IndexValue.TheVariants as index
pub use Rattle.nd_eval.specs.Storing.Operands.{IsHeld, AreHeld, operand_over, operands_over}

-- the session once all elements of the value are noted as used
abbrev pub marked : Value → Running → Running
marked (Number n) r = r
marked (Array a) r = after (Use (base_of a.base) (byte_places (geo_of a))) r
marked (Row a) r = after (Use (base_of a.base) (byte_places (geo_of a))) r

-- the session once an item of an index is noted as used: a row is not used
abbrev pub item_marked : Value → Running → Running
item_marked (Number n) r = r
item_marked (Array a) r = after (Use (base_of a.base) (byte_places (geo_of a))) r
item_marked (Row a) r = r

-- the arrays among the items of an index, from left to right; the bounds of slices are not used
abbrev pub items_marked : List ItemValue → Running → Running
items_marked [] r = r
items_marked (item.At v ∷ xs) r = items_marked xs (item_marked v r)
items_marked (x ∷ xs) r = items_marked xs r

abbrev pub index_marked : IndexValue → Running → Running
index_marked (index.Field n) r = r
index_marked (index.Items xs) r = items_marked xs.items r

-- one value after another
abbrev pub all_marked : List Value → Running → Running
all_marked [] r = r
all_marked (v ∷ vs) r = all_marked vs (marked v r)

-- an array of elements of this type, if it is one
abbrev pub IsOfType : ElementType → Value → Type 0
IsOfType t (Number n) = Unit {0}
IsOfType t (Array a) = (geo_of a).element ≡ t
IsOfType t (Row a) = Unit {0}

-- what an index with arrays gives of an operand has elements of its type
abbrev pub HasTypeOf : (is_advanced : Bool) → operand.Operand → Value → Type 0
HasTypeOf false o v = Unit {0}
HasTypeOf true (operand.Plain n) v = Unit {0}
HasTypeOf true (operand.Elements row g cs) v = IsOfType g.element v

-- a number or a row
abbrev pub IsNoArray : Value → Type 0
IsNoArray (Number n) = Unit {0}
IsNoArray (Array a) = ⊥
IsNoArray (Row a) = Unit {0}
