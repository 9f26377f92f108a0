-- Slices: the positions that `start:stop:step` chooses of an axis, as in Python.
use Rattle.std.specs.Prelude.{ℕ, suc, ◌+◌, ◌-◌, ◌*◌, ◌/◌, ℤ, pos, negsuc, ◌+ℤ◌, int_lt, unsigned_abs, nat_lt, if◌then◌else◌, List, map, Option, Some, None}
use Rattle.nd_model.specs.Arrays.Tuple.{count_up}

-- a bound counts from the end where it is negative
abbrev pub from_end : ℕ → ℤ → ℤ
from_end n z = if int_lt z (pos 0) then z +ℤ pos n else z

-- the nearest number of 0 to n
abbrev pub clipped : ℕ → ℤ → ℕ
clipped n z = if int_lt z (pos 0) then 0 else (if nat_lt n (unsigned_abs z) then n else unsigned_abs z)

-- a bound of an axis of length n, `more` behind what is written, or what stands for one that is left out
abbrev pub bound_or : (otherwise n more : ℕ) → Option ℤ → ℕ
bound_or otherwise n more None = otherwise
bound_or otherwise n more (Some z) = clipped n (from_end n z +ℤ pos more)

abbrev pub step_or : Option ℤ → ℤ
step_or None = pos 1
step_or (Some z) = z

-- how many steps of s lead from a to before b
abbrev pub steps : (a b s : ℕ) → ℕ
steps a b s = if nat_lt a b then suc ((b - a - 1) / s) else 0

-- the positions from a on, before b
abbrev pub upwards : (a b s : ℕ) → List ℕ
upwards a b s = map (λ k. a + k * s) (count_up 0 (steps a b s))

-- the positions from before a on, down to b
abbrev pub downwards : (a b s : ℕ) → List ℕ
downwards a b s = map (λ k. a - 1 - k * s) (count_up 0 (steps b a s))

-- The positions that a slice chooses of an axis of length n, in their order; the step is not 0. Downwards a bound is one more than
-- its position.
abbrev pub slice_positions : ℕ → Option ℤ → Option ℤ → ℤ → List ℕ
slice_positions n start stop (pos s) = upwards (bound_or 0 n 0 start) (bound_or n n 0 stop) s
slice_positions n start stop (negsuc s) = downwards (bound_or n n 1 start) (bound_or 0 n 1 stop) (suc s)
