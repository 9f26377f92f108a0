-- Items whose numbers are inside their axis.
use Rattle.std.specs.Prelude.{◌≡◌, ℕ, true, None, ⊤}
use Rattle.nd_model.specs.Indexing.Advanced as model
use Rattle.nd_model.specs.Indexing.Selecting as selecting
use Rattle.nd_model.specs.Indexing.Selecting.{is_within}

-- the numbers of an item are inside the axis, which has this length
abbrev pub IsInside : ℕ → model.IndexItem → Type 0
IsInside size (model.Basic (selecting.At z)) = is_within size z ≡ true
IsInside size (model.Basic i) = ⊤
IsInside size (model.Numbers shape zs) = (axis : ℕ) → model.outside_fault axis size zs ≡ None
IsInside size (model.Mask shape bs) = ⊤
