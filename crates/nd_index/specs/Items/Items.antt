-- The items of an index as the definitions have them.
use Rattle.std.specs.Prelude.{ℤ, List, map}
use Rattle.nd_model.specs.Indexing.Advanced as model
use Rattle.nd_index.specs.Basic.Items as basic
use Rattle.nd_element.specs.Elements.{numbers_at}
use Rattle.nd_index.specs.declared.items.item.IndexArray.{IndexArray}
use Rattle.nd_index.specs.declared.items.item.Item.{Item}
use Rattle.nd_index.specs.declared.items.item.Item.TheVariants.{Basic, Numbers, Mask}

-- the numbers of an array in C order
abbrev pub numbers_of : IndexArray → List ℤ
numbers_of a = numbers_at a.elem.now a.bytes.now a.view.now.places

abbrev pub item_of : Item → model.IndexItem
item_of (Basic i) = model.Basic (basic.item_of i)
item_of (Numbers a) = model.Numbers a.view.now.shape (numbers_of a)
item_of (Mask a) = model.Mask a.view.now.shape (map model.is_nonzero (numbers_of a))

abbrev pub items_of : List Item → List model.IndexItem
items_of is = map item_of is
