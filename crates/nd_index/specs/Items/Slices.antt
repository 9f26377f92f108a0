-- The slices of an index.
use Rattle.std.specs.Prelude.{◌≤◌, List, take}
use Rattle.nd_model.specs.Indexing.Selecting.{Item}
use Rattle.nd_index.specs.Basic.Items as basic
use Rattle.nd_index.specs.declared.items.slices.Slices.TheInside.{Inside}

abbrev pub slices_of : Inside → List Item
slices_of s = basic.items_of (take s.count s.slices)

pub record AreSlices (s : Inside) : Type 0 where
  pub within : s.count ≤ 33
