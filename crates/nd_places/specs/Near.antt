-- Places at the ends of ways from the first byte.
use Rattle.std.specs.Prelude.{◌≡◌, ℕ, Bool, ◌&&◌, ◌^◌, ◌≤◌, ℤ, pos, ◌+ℤ◌, ◌*ℤ◌, ◌≤ℤ◌, int_le, int_lt, unsigned_abs, if◌then◌else◌, not, nat_eq, List, map}
use Rattle.std.specs.List.{flat_map}
use Rattle.nd_model.specs.Indexing.Advanced.{true_numbers}

-- a way that is a place
abbrev pub place_on : ℤ → ℕ
place_on z = if int_le (pos 0) z && int_lt z (pos (2 ^ 64)) then unsigned_abs z else 0

-- a way that is near enough for sums of 64 bits
abbrev pub IsNear : ℤ → Type 0
IsNear z = unsigned_abs z ≤ 2 ^ 61

-- the places of rows that begin at these ways, each with elements at the same ways behind its start
abbrev pub rows_places : List ℤ → List ℤ → List ℕ
rows_places starts ways = flat_map (λ s. map (λ z. place_on (s +ℤ z)) ways) starts

-- the element of this number on a line
abbrev pub place_on_line : (start step : ℤ) → ℕ → ℕ
place_on_line start step k = place_on (start +ℤ (pos k *ℤ step))

-- the elements of a line, of this size, follow one another, and the first is a place
abbrev pub IsRow : (start step : ℤ) → ℕ → Type 0
IsRow start step size = (step ≡ pos size) × (pos 0 ≤ℤ start)

-- whether a byte of a mask is true
abbrev pub is_true : ℕ → Bool
is_true b = not (nat_eq b 0)

-- the numbers of the bytes of a mask that are true, where the first byte has this number
abbrev pub trues_in : ℕ → List ℕ → List ℕ
trues_in first mask = true_numbers first (map is_true mask)
