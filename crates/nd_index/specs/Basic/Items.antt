-- The items of an index as the definitions have them.
use Rattle.std.specs.Prelude.{ℕ, ◌+◌, List, [], ◌∷◌, map}
use Rattle.nd_model.specs.Indexing.Selecting as model
use Rattle.nd_index.specs.declared.basic.item.BasicItem.{BasicItem}
use Rattle.nd_index.specs.declared.basic.item.BasicItem.TheVariants.{At, Slice, Ellipsis, NewAxis}

abbrev pub item_of : BasicItem → model.Item
item_of (At z) = model.At z
item_of (Slice start stop step) = model.Slice start stop step
item_of Ellipsis = model.Ellipsis
item_of NewAxis = model.NewAxis

abbrev pub items_of : List BasicItem → List model.Item
items_of is = map item_of is

-- how many axes an item gives the view
abbrev pub kept_of : model.Item → ℕ
kept_of (model.At z) = 0
kept_of (model.Slice start stop step) = 1
kept_of model.Ellipsis = 0
kept_of model.NewAxis = 1

abbrev pub kept_in : List model.Item → ℕ
kept_in [] = 0
kept_in (i ∷ is) = kept_of i + kept_in is
