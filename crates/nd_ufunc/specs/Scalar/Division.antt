-- Quotients by numbers above zero, from those of magnitudes.
use Rattle.std.specs.Prelude.{ℕ, ◌+◌, ◌-◌, ◌*◌, ◌<◌, ◌≤◌, ℤ, pos, negsuc}

-- a whole and so many parts of it, times the divisor, make twice the power of wholes or a little more
abbrev pub IsReciprocal : (whole power divisor parts : ℕ) → Type 0
IsReciprocal w h d m = (2 * h * w ≤ (w + m) * d) × ((w + m) * d ≤ 2 * h * w + 2 * h)

-- how far a number is from zero, or from -1 where it is below zero
abbrev pub magnitude : ℤ → ℕ
magnitude (pos n) = n
magnitude (negsuc n) = n

-- the quotient of a number whose magnitude has this one
abbrev pub quotient_like : ℤ → ℕ → ℤ
quotient_like (pos n) q = pos q
quotient_like (negsuc n) q = negsuc q

-- what is left of a number, where this is left of its magnitude
abbrev pub remainder_like : ℤ → (divisor : ℕ) → ℕ → ℤ
remainder_like (pos n) d r = pos r
remainder_like (negsuc n) d r = pos (d - 1 - r)
