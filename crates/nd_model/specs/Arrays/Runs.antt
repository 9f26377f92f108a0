-- Runs: elements at even steps, as one axis of a view has them, and a copy of one run over another. A step is in bytes, and may
-- be 0 or negative (PEP 3118, "strides").
use Rattle.std.specs.Prelude.{ℕ, zero, suc, ◌+◌, ◌-◌, ◌/◌, ◌<◌, ◌≤◌, ℤ, pos, ◌≤ℤ◌, ◌+ℤ◌, ◌*ℤ◌, unsigned_abs, List, [], ◌∷◌, length, take, drop, slice_index_or, map, ◌⊎◌}
use Rattle.nd_model.specs.Arrays.Element.{bytes_at, with_bytes}
use Rattle.nd_model.specs.Arrays.Tuple.{count_up}
use Rattle.nd_model.specs.Arrays.View.{Geo}

-- where element k of a run begins, before it is known that this is no negative number
abbrev pub place_at : ℕ → ℤ → ℕ → ℤ
place_at start step k = pos start +ℤ (pos k *ℤ step)

-- the place where element k begins
abbrev pub spot_at : ℕ → ℤ → ℕ → ℕ
spot_at start step k = unsigned_abs (place_at start step k)

-- the places where the elements begin
abbrev pub run_places : ℕ → ℤ → ℕ → List ℕ
run_places start step count = map (spot_at start step) (count_up 0 count)

-- ---- the runs of a view

-- the first `count` pieces of n places each
abbrev pub pieces : ℕ → ℕ → List ℕ → List (List ℕ)
pieces n zero ps = []
pieces n (suc count) ps = take n ps ∷ pieces n count (drop n ps)

-- all pieces of n places
abbrev pub in_pieces : ℕ → List ℕ → List (List ℕ)
in_pieces n ps = pieces n (length ps / n) ps

-- the length of the last axis, 1 where there is no axis
abbrev pub last_length : List ℕ → ℕ
last_length shape = slice_index_or shape (length shape - 1) 1

-- the runs of a view in C order: each is the places along the last axis. Where there are no elements there are none
abbrev pub runs_of : Geo → List (List ℕ)
runs_of g = in_pieces (last_length g.shape) g.places

-- ---- copies

-- the `count` elements of `size` bytes lie within `len` bytes
abbrev pub AreWithin : ℕ → ℤ → ℕ → ℕ → ℕ → Type 0
AreWithin start step size count len = (k : ℕ) → k < count → (pos 0 ≤ℤ place_at start step k) × (spot_at start step k + size ≤ len)

-- no byte that is written for an element belongs to an element that is read later
abbrev pub AreApart : ℕ → ℤ → ℕ → ℤ → ℕ → ℕ → Type 0
AreApart to to_step from from_step size count =
    (j k : ℕ) → j < k → k < count → (spot_at to to_step j + size ≤ spot_at from from_step k) ⊎ (spot_at from from_step k + size ≤ spot_at to to_step j)

-- the bytes after the first `count` elements, each read from the bytes as they were, are written one after the other
abbrev pub copied : ℕ → ℤ → ℕ → ℤ → ℕ → ℕ → List ℕ → List ℕ
copied to to_step from from_step size zero bytes = bytes
copied to to_step from from_step size (suc count) bytes =
    with_bytes (copied to to_step from from_step size count bytes) (spot_at to to_step count) (bytes_at bytes (spot_at from from_step count) size)
