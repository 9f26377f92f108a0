-- The items that a filled index has.
use Rattle.std.specs.Prelude.{List, ◌++◌, replicate}
use Rattle.nd_model.specs.Indexing.Selecting as model
use Rattle.nd_index.specs.Basic.Items.{items_of}
use Rattle.nd_index.specs.declared.basic.full_index.FullIndex.{FullIndex}

abbrev pub items_in : FullIndex → List model.Item
items_in f = items_of f.front.now ++ (replicate f.missing model.whole_slice ++ items_of f.back.now)
