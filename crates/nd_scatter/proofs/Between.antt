-- Elements between the ends of a line.
use Rattle.std.proofs.Common.{ℕ, ℤ, pos, negsuc, ◌+◌, ◌≤◌, suc, Bool, true, false, arith}
use Rattle.std.specs.Prelude.{◌+ℤ◌, ◌*ℤ◌, ◌≤ℤ◌, ◌&&◌, ◌^◌, int_le, int_lt, if◌then◌else◌}
use Rattle.std.proofs.Math.Nat.{mul-le-mul_right}
use Rattle.std.proofs.lemmas.Int.{ints}
use Rattle.nd_places.specs.Near.{place_on}

-- an element is not before the first one and the last one
pub not_before : (start step : ℤ) (k last : ℕ) → k ≤ last → pos 0 ≤ℤ start → pos 0 ≤ℤ (start +ℤ (pos last *ℤ step)) → pos 0 ≤ℤ (start +ℤ (pos k *ℤ step))
not_before start (pos s) k last le first end = omega (arith, ints, first, mul-le-mul_right s le)
not_before start (negsuc s) k last le first end = omega (arith, ints, end, mul-le-mul_right (suc s) le)

-- nor behind both
pub not_behind : (start step : ℤ) (k last size len : ℕ) → k ≤ last → (start +ℤ pos size) ≤ℤ pos len → ((start +ℤ (pos last *ℤ step)) +ℤ pos size) ≤ℤ pos len
    → ((start +ℤ (pos k *ℤ step)) +ℤ pos size) ≤ℤ pos len
not_behind start (pos s) k last size len le first end = omega (arith, ints, end, mul-le-mul_right s le)
not_behind start (negsuc s) k last size len le first end = omega (arith, ints, first, mul-le-mul_right (suc s) le)

at_most : (b : Bool) (n : ℕ) → (if b then n else 0) ≤ n
at_most true n = omega arith
at_most false n = omega arith

-- an element whose way lies inside a block has a place inside it
pub place_inside : (z : ℤ) (size len : ℕ) → pos 0 ≤ℤ z → (z +ℤ pos size) ≤ℤ pos len → place_on z + size ≤ len
place_inside (pos n) size len above inside = omega (arith, ints, inside, at_most (int_le (pos 0) (pos n) && int_lt (pos n) (pos (2 ^ 64))) n)
place_inside (negsuc n) size len above inside = absurd (omega (arith, ints, above))
