-- Indexes: what is chosen of an array by items and their operands, and by the name of a field.
use Rattle.std.specs.Prelude.{ℕ, ℤ, Bool, true, false, List, [], ◌∷◌, slice_index, Option, Some, None, Result, Ok, Err, is_ok}
use Rattle.std.specs.List.{flat_map, list_all, list_any}
use Rattle.nd_model.specs.Arrays.Element.{Boolean}
use Rattle.nd_model.specs.Arrays.View.{Field, Geo}
use Rattle.nd_model.specs.Cells.Fault.{Fault, Index, Stmt, NotAnIndex, NoField, NotAnArray}
use Rattle.nd_model.specs.Cells.Refusing.{◌>>=◌}
use Rattle.nd_model.specs.Indexing.Selecting.{Item, At, Slice, Ellipsis, NewAxis, select, field_of, view_of_field}
use Rattle.nd_model.specs.Indexing.Advanced.{IndexItem, Basic, array_item, choose}
use Rattle.nd_model.specs.Making.Operand.{Int, Truth, Scalar, Operand, Plain, Elements, Chosen, AnElement, AView, ACopy}

-- an array that is indexed, or written to
abbrev pub array_of : Operand → Result Geo Fault
array_of (Elements false g cs) = Ok g
array_of _ = Err (Stmt NotAnArray)

-- ---- items and their operands

-- how an item is written: an operand, which may be the array of a list; a slice and which of its bounds are written; `...`; a new
-- axis; a list without a number
pub data Form : Type 0 where
  AtForm : Form
  SliceForm : (start stop step : Bool) → Form
  EllipsisForm : Form
  NewAxisForm : Form
  EmptyForm : Form

-- a whole number that an item or a bound may be
abbrev pub integer_of : Operand → Result ℤ Fault
integer_of (Plain (Int z)) = Ok z
integer_of (Plain (Truth t)) = Err (Index NotAnIndex)
integer_of (Plain (Scalar Boolean z)) = Err (Index NotAnIndex)
integer_of (Plain (Scalar k z)) = Ok z
integer_of (Elements row g cs) = Err (Index NotAnIndex)

abbrev pub item_or : Option IndexItem → Fault → Result IndexItem Fault
item_or (Some i) f = Ok i
item_or None f = Err f

-- an array is one where it has axes and holds numbers
abbrev pub item_of : Operand → Result IndexItem Fault
item_of (Elements false g cs) = item_or (array_item g.element g.shape cs) (Index NotAnIndex)
item_of o = do
  z ← integer_of o
  Ok (Basic (At z))

-- the bound, if it is written, and the operands behind it
abbrev pub bound_of : (is_given : Bool) → List Operand → Result (Option ℤ × List Operand) Fault
bound_of true (o ∷ os) = do
  z ← integer_of o
  Ok (Some z, os)
bound_of is_given os = Ok (None, os)

-- the items that are written so, of these operands
abbrev pub items_of : List Form → List Operand → Result (List IndexItem) Fault
items_of [] os = Ok []
items_of (AtForm ∷ fs) [] = Err (Index NotAnIndex)
items_of (AtForm ∷ fs) (o ∷ os) = do
  i ← item_of o
  is ← items_of fs os
  Ok (i ∷ is)
items_of (SliceForm a b c ∷ fs) os = do
  start ← bound_of a os
  stop ← bound_of b start.1
  step ← bound_of c stop.1
  is ← items_of fs step.1
  Ok (Basic (Slice start.0 stop.0 step.0) ∷ is)
items_of (EllipsisForm ∷ fs) os = do
  is ← items_of fs os
  Ok (Basic Ellipsis ∷ is)
items_of (NewAxisForm ∷ fs) os = do
  is ← items_of fs os
  Ok (Basic NewAxis ∷ is)
items_of (EmptyForm ∷ fs) os = Err (Index NotAnIndex)

-- ---- what items choose

-- an array among the operands of the items makes an advanced index
abbrev pub has_array : List Operand → Bool
has_array os = list_any (λ o. is_ok (array_of o)) os

abbrev pub basic_item : IndexItem → List Item
basic_item (Basic i) = i ∷ []
basic_item i = []

-- the items of a basic index
abbrev pub basic_items : List IndexItem → List Item
basic_items is = flat_map basic_item is

abbrev pub is_number : Item → Bool
is_number (At z) = true
is_number i = false

-- one element, where no axis is left; all else is a view
abbrev pub choice_of : (is_one : Bool) → (shape : List ℕ) → Geo → Chosen
choice_of true [] h = AnElement h.element (slice_index h.places 0)
choice_of is_one shape h = AView h

-- whole numbers alone, one for each axis, choose an element
abbrev pub choose_basic : List Item → Geo → Result Chosen Fault
choose_basic is g = do
  h ← select is g
  Ok (choice_of (list_all is_number is) h.shape h)

-- an advanced index chooses a copy
abbrev pub choose_items : (is_advanced : Bool) → List IndexItem → Geo → Result Chosen Fault
choose_items false is g = choose_basic (basic_items is) g
choose_items true is g = do
  h ← choose is g
  Ok (ACopy h)

-- `t[..]`: a NumPy scalar, a row of an array of structures, a view, or a copy
abbrev pub index_array : List Form → Operand → List Operand → Result Chosen Fault
index_array forms t os = do
  g ← array_of t
  is ← items_of forms os
  choose_items (has_array os) is g

-- ---- fields

-- of an array a view, of a row a number
abbrev pub choose_field : (row : Bool) → Geo → (name : List ℕ) → Option Field → Result Chosen Fault
choose_field row g name None = Err (Index (NoField name))
choose_field row g name (Some f) = Ok (choice_of row g.shape (view_of_field g f))

-- `t['name']`
abbrev pub index_field : (name : List ℕ) → Operand → Result Chosen Fault
index_field name (Plain n) = Err (Stmt NotAnArray)
index_field name (Elements row g cs) = choose_field row g name (field_of name g.element)
