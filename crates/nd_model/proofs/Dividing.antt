-- Quotients rounded down, and what they leave.
use Rattle.std.proofs.Common.{◌≡◌, ◌≢◌, ℕ, zero, suc, ◌+◌, ◌-◌, ◌*◌, ◌<◌, Bool, true, false, cond, refl, ap, ◌∙◌, arith}
use Rattle.std.specs.Prelude.{pos, negsuc, neg_ℤ, ◌+ℤ◌, ◌-ℤ◌, ◌*ℤ◌, ◌/◌, ◌%◌, ◌==◌, not}
use Rattle.std.proofs.lemmas.Int.{ints}
use Rattle.std.proofs.lemmas.Bool.{eqb-true, eqb-false}
use Rattle.nd_model.specs.Making.Operators.{Divides, FloorDivision}

-- by a number above zero
up : (a d q r : ℕ) → 0 < d → d * q + r ≡ a → r < d → Divides (pos a) (pos d) (pos q) (pos r)
up a d q r some is less = record { whole = ap pos is; above = λ h. (omega (arith, ints), omega (arith, ints)); below = λ h. absurd (omega (arith, ints, h)) }

down : (a d q r : ℕ) → 0 < d → d * q + r ≡ a → r < d → Divides (negsuc a) (pos d) (negsuc q) (pos (d - 1 - r))
down a d q r some is less = record { whole = omega (arith, ints); above = λ h. (omega (arith, ints), omega (arith, ints)); below = λ h. absurd (omega (arith, ints, h)) }

both_negative : (b q : ℕ) → negsuc b *ℤ neg_ℤ (pos q) ≡ pos (suc b * q)
both_negative b zero = omega (arith, ints)
both_negative b (suc q) = omega (arith, ints)

-- by a number below zero, where something is left or nothing
left_up : (a b q r : ℕ) (none : Bool) → (r == 0) ≡ none → suc b * q + r ≡ a → r < suc b
    → Divides (pos a) (negsuc b) (cond (not none) (neg_ℤ (pos q) -ℤ pos 1) (neg_ℤ (pos q))) (cond (not none) (pos r +ℤ negsuc b) (pos r))
left_up a b q r true e is less = let zero : r ≡ 0 = eqb-true r 0 e in record { whole = ap (λ z. z +ℤ pos r) (both_negative b q) ∙ ap pos is; above = λ h. absurd (omega (arith, ints, h)); below = λ h. (omega (arith, ints), omega (arith, ints)) }
left_up a b q r false e is less =
    let some : r ≢ 0 = eqb-false r 0 e in
    let lower : neg_ℤ (pos q) -ℤ pos 1 ≡ negsuc q = omega (arith, ints) in
    record { whole = ap (λ z. (negsuc b *ℤ z) +ℤ (pos r +ℤ negsuc b)) lower ∙ omega (arith, ints); above = λ h. absurd (omega (arith, ints, h)); below = λ h. (omega (arith, ints), omega (arith, ints)) }

left_down : (a b q r m : ℕ) (none : Bool) → (m == 0) ≡ none → m + 1 + r ≡ suc b → suc b * q + r ≡ a
    → Divides (negsuc a) (negsuc b) (cond (not none) (pos (suc q) -ℤ pos 1) (pos (suc q))) (cond (not none) (pos m +ℤ negsuc b) (pos m))
left_down a b q r m true e rest is = let zero : m ≡ 0 = eqb-true m 0 e in record { whole = omega (arith, ints); above = λ h. absurd (omega (arith, ints, h)); below = λ h. (omega (arith, ints), omega (arith, ints)) }
left_down a b q r m false e rest is =
    let some : m ≢ 0 = eqb-false m 0 e in
    let lower : pos (suc q) -ℤ pos 1 ≡ pos q = omega (arith, ints) in
    record { whole = ap (λ z. (negsuc b *ℤ z) +ℤ (pos m +ℤ negsuc b)) lower ∙ omega (arith, ints); above = λ h. absurd (omega (arith, ints, h)); below = λ h. (omega (arith, ints), omega (arith, ints)) }

pub floor_division : FloorDivision
floor_division (pos a) (pos zero) h = absurd (h refl)
floor_division (pos a) (pos (suc b)) h = up a (suc b) (a / suc b) (a % suc b) (omega arith) (omega arith) (omega arith)
floor_division (negsuc a) (pos zero) h = absurd (h refl)
floor_division (negsuc a) (pos (suc b)) h = down a (suc b) (a / suc b) (a % suc b) (omega arith) (omega arith) (omega arith)
floor_division (pos a) (negsuc b) h = left_up a b (a / suc b) (a % suc b) _ refl (omega arith) (omega arith)
floor_division (negsuc a) (negsuc b) h = left_down a b (a / suc b) (a % suc b) (suc b - 1 - a % suc b) _ refl (omega arith) (omega arith)
