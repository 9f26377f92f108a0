-- The elements of a view in a greater shape: the first of a row is found by its number, and each further one by a stride.
use Rattle.std.specs.Prelude.{◌≡◌, ℕ, ◌+◌, ◌-◌, ◌*◌, ◌/◌, ◌%◌, ◌^◌, ◌<◌, ◌≤◌, ◌==◌, ◌||◌, nat_lt, true, if◌then◌else◌}
use Rattle.std.specs.Prelude.{ℤ, pos, ◌+ℤ◌, ◌*ℤ◌, List, [], ◌∷◌, length, drop, slice_index, slice_index_or}
use Rattle.nd_model.specs.Arrays.Broadcast.{broadcast_view, broadcasts_to}
use Rattle.nd_model.specs.Arrays.Tuple.{elements_of}
use Rattle.nd_ufunc.specs.declared.elementwise.spread.Spread.TheInside.{Inside}

-- the index on an axis of length n that stands beside index i
abbrev pub own_index : (n i : ℕ) → ℕ
own_index n i = if n == 1 then 0 else i

-- the number of the element beside that of number k, in a shape that broadcasts to the other and has as many axes
abbrev pub own_number : (own shape : List ℕ) → (k : ℕ) → ℕ
own_number [] shape k = 0
own_number (n ∷ own) [] k = 0
own_number (n ∷ own) (m ∷ shape) k = own_index n (k / elements_of shape) * elements_of own + own_number own shape (k % elements_of shape)

-- the stride along an axis of a greater shape with `lacking` more axes: 0 where the own axis has length 1 or is missing
abbrev pub broadcast_stride : (own : List ℕ) → (strides : List ℤ) → (lacking axis : ℕ) → ℤ
broadcast_stride own strides lacking axis = if nat_lt axis lacking || slice_index own (axis - lacking) == 1 then pos 0 else slice_index_or strides (axis - lacking) (pos 0)

-- in rows of this length each byte offset is one stride behind the one before it
abbrev pub AreRows : (places : List ℕ) → (row : ℕ) → (stride : ℤ) → Type 0
AreRows places row stride =
    (k d : ℕ) → k < length places → k % row + d < row → (pos (slice_index places k) +ℤ (pos d *ℤ stride) ≡ pos (slice_index places (k + d))) × (slice_index places (k + d) < 2 ^ 64)

-- the byte offsets from number `at` on, as many as are left in the row, are one, two, three .. strides behind this one
abbrev pub AreBehind : (places : List ℕ) → (at left place : ℕ) → (stride : ℤ) → Type 0
AreBehind places at left place stride =
    (k : ℕ) → k < left → (pos place +ℤ (pos (k + 1) *ℤ stride) ≡ pos (slice_index places (at + k))) × (slice_index places (at + k) < 2 ^ 64)

-- the byte offsets that are left
abbrev pub left_of : Inside → List ℕ
left_of s = drop s.at (broadcast_view s.view.now s.shape.now).places

pub record IsSpread (s : Inside) : Type 0 where
  pub fits : broadcasts_to s.view.now.shape s.shape.now ≡ true
  pub few : elements_of s.shape.now ≤ 2 ^ 24
  pub rows : AreRows (broadcast_view s.view.now s.shape.now).places s.row.length s.row.stride
  pub some : 0 < elements_of s.shape.now → 0 < s.row.length
  pub behind : AreBehind (broadcast_view s.view.now s.shape.now).places s.at s.more s.place s.row.stride
