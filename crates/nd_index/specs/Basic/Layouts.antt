-- The strides of what is picked.
use Rattle.std.specs.Prelude.{◌≡◌, ℕ, ◌^◌, ◌≤◌, ℤ, pos, ◌+ℤ◌, ◌*ℤ◌, neg_ℤ, unsigned_abs, List, [], ◌∷◌, length, drop, slice_index, slice_index_or, true, ⊤}
use Rattle.nd_model.specs.Arrays.Strides.{way_to}
use Rattle.nd_model.specs.Indexing.Selecting.{is_within}
use Rattle.nd_model.specs.Indexing.Selecting.{Item, At, Pick, KeptAxis, OnePosition, AddedAxis, source}
use Rattle.nd_index.specs.declared.basic.positions.Positions.{Positions}

-- from each position to the next; 0 where there are fewer than two
abbrev pub step_of : List ℕ → ℤ
step_of (a ∷ b ∷ ns) = pos b +ℤ neg_ℤ (pos a)
step_of _ = pos 0

pub record ArePositions (p : Positions) (ns : List ℕ) : Type 0 where
  pub first : p.first ≡ slice_index ns 0
  pub step : p.step ≡ step_of ns
  pub count : p.count ≡ length ns
  pub near : p.first ≤ 2 ^ 32
  pub short : unsigned_abs p.step ≤ 2 ^ 32

-- a whole number is inside the axis that it chooses of
abbrev pub IsInside : ℕ → Item → Type 0
IsInside n (At z) = is_within n z ≡ true
IsInside n i = ⊤

-- the stride of the first of these axes
abbrev pub stride_of : List ℤ → ℤ
stride_of strides = slice_index_or strides 0 (pos 0)

-- the strides of what is picked of axes with these strides
abbrev pub picked_strides : List Pick → List ℤ → List ℤ
picked_strides [] strides = []
picked_strides (KeptAxis ns ∷ qs) strides = (step_of ns *ℤ stride_of strides) ∷ picked_strides qs (drop 1 strides)
picked_strides (OnePosition k ∷ qs) strides = picked_strides qs (drop 1 strides)
picked_strides (AddedAxis ∷ qs) strides = pos 0 ∷ picked_strides qs strides

-- the way to its first element
abbrev pub picked_way : List Pick → List ℤ → ℤ
picked_way qs strides = way_to (source qs []) strides
