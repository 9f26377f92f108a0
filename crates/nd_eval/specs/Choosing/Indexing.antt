-- Indexes whose expressions are evaluated, as the definitions have them.
use Rattle.std.specs.Prelude.{◌≡◌, ℕ, ℤ, Bool, true, false, List, [], ◌∷◌, ◌++◌, map, Option, Some, None, Result, Ok, Err, is_some, slice_index}
use Rattle.std.specs.List.{flat_map}
use Rattle.nd_model.specs.Cells.Fault.{Fault, Index, NotAnIndex}
use Rattle.nd_model.specs.Cells.Refusing.{◌>>=◌}
use Rattle.nd_model.specs.Indexing.Advanced.{IndexItem, Basic, choose}
use Rattle.nd_model.specs.Indexing.Selecting as model
use Rattle.nd_model.specs.Cells.Sound.{LiesIn}
use Rattle.nd_model.specs.Arrays.View.{Geo}
use Rattle.nd_model.specs.Arrays.Value.{Base}
use Rattle.nd_model.specs.Making.Operand as operand
use Rattle.nd_model.specs.Indexing.Index.{Form, AtForm, SliceForm, EllipsisForm, NewAxisForm, EmptyForm, integer_of, item_of, items_of, has_array, choose_basic, choose_items}
use Rattle.nd_model.specs.Indexing.Viewing.{Viewing, Indexed, Fielded}
use Rattle.nd_heap.specs.declared.value.Value.{Value}
use Rattle.nd_heap.specs.declared.value.Value.TheVariants as value
use Rattle.nd_heap.specs.Values.{base_of, geo_of}
use Rattle.nd_eval.specs.declared.choosing.indexes.ItemValue.{ItemValue}
use Rattle.nd_eval.specs.declared.choosing.indexes.ItemValue.TheVariants.{At, Slice, Ellipsis, NewAxis, Empty}
use Rattle.nd_eval.specs.declared.choosing.indexes.IndexValue.{IndexValue}
use Rattle.nd_eval.specs.declared.choosing.indexes.IndexValue.TheVariants.{Field, Items}
use Rattle.nd_eval.specs.declared.choosing.indexes.Chosen.{Chosen}
use Rattle.nd_eval.specs.declared.choosing.indexes.Chosen.TheVariants.{Element, View, Copy}
use Rattle.nd_eval.specs.Choosing.Selections.{selected}
use Rattle.nd_operation.specs.Operators.Contents.{elements_over, num_of, unused_of}
use Rattle.nd_operation.specs.Operators.New.{option_list}

-- ---- how items are written, and their operands

abbrev pub form_of : ItemValue → Form
form_of (At v) = AtForm
form_of (Slice start stop step) = SliceForm (is_some start) (is_some stop) (is_some step)
form_of Ellipsis = EllipsisForm
form_of NewAxis = NewAxisForm
form_of Empty = EmptyForm

abbrev pub forms_of : List ItemValue → List Form
forms_of xs = map form_of xs

-- the operand that a bound is, if it is written
abbrev pub bound_operands : Option Value → List operand.Operand
bound_operands o = map unused_of (option_list o)

abbrev pub operands_in_item : ItemValue → List operand.Operand
operands_in_item (At v) = unused_of v ∷ []
operands_in_item (Slice start stop step) = map unused_of (option_list start ++ option_list stop ++ option_list step)
operands_in_item Ellipsis = []
operands_in_item NewAxis = []
operands_in_item Empty = []

-- the expressions' values from left to right, none of them used
abbrev pub operands_in : List ItemValue → List operand.Operand
operands_in xs = flat_map operands_in_item xs

-- an item in these blocks: an array is used, and nothing else is
abbrev pub index_operand : (Base → List ℕ) → Value → operand.Operand
index_operand bytes (value.Number n) = operand.Plain (num_of n)
index_operand bytes (value.Array a) = elements_over false (geo_of a) (bytes (base_of a.base))
index_operand bytes (value.Row a) = operand.Elements true (geo_of a) []

abbrev pub item_operands : (Base → List ℕ) → ItemValue → List operand.Operand
item_operands bytes (At v) = index_operand bytes v ∷ []
item_operands bytes (Slice start stop step) = map unused_of (option_list start ++ option_list stop ++ option_list step)
item_operands bytes Ellipsis = []
item_operands bytes NewAxis = []
item_operands bytes Empty = []

-- from left to right, the arrays among the items with their elements in these blocks
abbrev pub items_operands : (Base → List ℕ) → List ItemValue → List operand.Operand
items_operands bytes xs = flat_map (item_operands bytes) xs

abbrev pub viewing_of : IndexValue → Viewing
viewing_of (Field name) = Fielded name.now
viewing_of (Items xs) = Indexed (forms_of xs.items)

-- none of them used
abbrev pub operands_of : IndexValue → List operand.Operand
operands_of (Field name) = []
operands_of (Items xs) = operands_in xs.items

abbrev pub index_operands : (Base → List ℕ) → IndexValue → List operand.Operand
index_operands bytes (Field name) = []
index_operands bytes (Items xs) = items_operands bytes xs.items

-- ---- the items of a basic index

abbrev pub bound_item : Option Value → Result (Option ℤ) Fault
bound_item None = Ok None
bound_item (Some v) = do
  z ← integer_of (unused_of v)
  Ok (Some z)

abbrev pub item_from : ItemValue → Result model.Item Fault
item_from (At v) = do
  z ← integer_of (unused_of v)
  Ok (model.At z)
item_from (Slice start stop step) = do
  a ← bound_item start
  b ← bound_item stop
  c ← bound_item step
  Ok (model.Slice a b c)
item_from Ellipsis = Ok model.Ellipsis
item_from NewAxis = Ok model.NewAxis
item_from Empty = Err (Index NotAnIndex)

abbrev pub items_from : List ItemValue → Result (List model.Item) Fault
items_from [] = Ok []
items_from (x ∷ xs) = do
  i ← item_from x
  is ← items_from xs
  Ok (i ∷ is)

-- what they choose of an array
abbrev pub basic_choice : List ItemValue → Geo → Result operand.Chosen Fault
basic_choice xs g = do
  is ← items_from xs
  choose_basic is g

-- ---- items, where arrays are among them

abbrev pub as_basic : Result model.Item Fault → Result IndexItem Fault
as_basic m = do
  i ← m
  Ok (Basic i)

abbrev pub item_over : (Base → List ℕ) → ItemValue → Result IndexItem Fault
item_over bytes (At v) = item_of (index_operand bytes v)
item_over bytes (Slice start stop step) = as_basic (item_from (Slice start stop step))
item_over bytes Ellipsis = Ok (Basic model.Ellipsis)
item_over bytes NewAxis = Ok (Basic model.NewAxis)
item_over bytes Empty = Err (Index NotAnIndex)

abbrev pub items_over : (Base → List ℕ) → List ItemValue → Result (List IndexItem) Fault
items_over bytes [] = Ok []
items_over bytes (x ∷ xs) = do
  i ← item_over bytes x
  is ← items_over bytes xs
  Ok (i ∷ is)

-- the refusal in what was worked out, if it is one
abbrev pub refusal_in : {A : Type 0} → Result A Fault → Option Fault
refusal_in (Ok x) = None
refusal_in (Err f) = Some f

-- the elements that they choose of an array
abbrev pub elements_by : (Base → List ℕ) → List ItemValue → Geo → Result Geo Fault
elements_by bytes xs g = do
  is ← items_over bytes xs
  choose is g

-- what is chosen of an array, by a basic index or by one with arrays
abbrev pub choice_by : (Base → List ℕ) → List ItemValue → Geo → Result operand.Chosen Fault
choice_by bytes xs g = do
  is ← items_of (forms_of xs) (items_operands bytes xs)
  choose_items (has_array (items_operands bytes xs)) is g

-- ---- what is chosen

abbrev pub chosen_of : Chosen → operand.Chosen
chosen_of (Element v) = operand.AnElement v.element (slice_index v.places 0)
chosen_of (View v) = operand.AView v
chosen_of (Copy s) = operand.ACopy (selected s)

-- an element is a view without axes, which may be written to where its array may
abbrev pub IsOne : Bool → Chosen → Type 0
IsOne writable (Element v) = (v.shape ≡ []) × (v.writable ≡ writable)
IsOne writable (View v) = Unit {0}
IsOne writable (Copy s) = Unit {0}

-- elements that are copied lie in so many bytes
abbrev pub CopyLies : (len : ℕ) → Chosen → Type 0
CopyLies len (Element v) = Unit {0}
CopyLies len (View v) = Unit {0}
CopyLies len (Copy s) = LiesIn len (selected s)

-- where there is an array among the items, elements of this operand are copied
abbrev pub IsCopyOf : (is_advanced : Bool) → operand.Operand → Chosen → Type 0
IsCopyOf false o c = Unit {0}
IsCopyOf true (operand.Plain n) c = Unit {0}
IsCopyOf true (operand.Elements row g cs) (Element v) = ⊥
IsCopyOf true (operand.Elements row g cs) (View v) = ⊥
IsCopyOf true (operand.Elements row g cs) (Copy s) = s.view ≡ g

abbrev pub view_in : Chosen → Geo
view_in (Element v) = v
view_in (View v) = v
view_in (Copy s) = selected s
