-- Numbers that are a step apart: those before the end fit as the ends do.
use Rattle.std.proofs.Common.{◌≡◌, ◌≢◌, ℕ, zero, suc, ◌+◌, ◌-◌, ◌*◌, ◌/◌, ◌<◌, ◌≤◌, Bool, true, false, cond, ℤ, pos, negsuc, neg_ℤ, inl, inr, ◌+ℤ◌, ◌-ℤ◌, ◌*ℤ◌, ◌≤ℤ◌, map, Some, None, FitsSigned, refl, sym, ap, subst, ◌∙◌, arith}
use Rattle.std.specs.Prelude.{int_le, int_lt, unsigned_abs, ◌==◌, ◌&&◌, ◌⊎◌}
use Rattle.std.proofs.lemmas.Bool.Decides.{nat_tests}
use Rattle.std.specs.List.{find}
use Rattle.std.specs.Int.{w128, int_wrap}
use Rattle.std.proofs.lemmas.Int.{ints, int_wrap_fits}
use Rattle.std.proofs.Math.IntN.{pos-*ℤ-pos, pos-*ℤ-negsuc}
use Rattle.std.proofs.Math.Nat.{div-mul-le_self, mul-le-mul_right}
use Rattle.nd_model.specs.Arrays.Tuple.{count_up}
use Rattle.nd_model.specs.Arrays.Element.{Kind, fits, highest, lowest}
use Rattle.nd_model.specs.Making.Creation as creation
use Rattle.nd_model.specs.Making.Creation.{range_by, range_count, range_number}
use Rattle.nd_convert.specs.declared.creation.ranges.Range.{Range}
use Rattle.nd_convert.specs.Creation.Ranges.{range_from}

between : (a z b : ℤ) → FitsSigned w128 a → FitsSigned w128 b → a ≤ℤ z → z ≤ℤ b → FitsSigned w128 z
between a (pos n) (pos m) low high from to = record { sfits = omega (arith, ints, high.sfits, to) }
between a (pos n) (negsuc m) low high from to = absurd (omega (arith, ints, to))
between (pos m) (negsuc n) b low high from to = absurd (omega (arith, ints, from))
between (negsuc m) (negsuc n) b low high from to = record { sfits = omega (arith, ints, low.sfits, from) }

up : (a b : ℤ) (m : ℕ) → int_lt a b ≡ true → m ≤ unsigned_abs (b -ℤ a) - 1 → (a ≤ℤ (a +ℤ pos m)) × ((a +ℤ pos m) ≤ℤ b)
up a b m less few = (omega (arith, ints), grind (arith, ints))

down : (a b : ℤ) (m : ℕ) → int_lt b a ≡ true → m ≤ unsigned_abs (b -ℤ a) - 1 → (b ≤ℤ (a +ℤ neg_ℤ (pos m))) × ((a +ℤ neg_ℤ (pos m)) ≤ℤ a)
down a b m less few = (grind (arith, ints), omega (arith, ints))

-- k steps of n stay before d
steps : (d n k : ℕ) → k < (d - 1) / n + 1 → k * n ≤ d - 1
steps d n k few = omega (arith, mul-le-mul_right n (let le : k ≤ (d - 1) / n = omega arith in le), div-mul-le_self (d - 1) n)

-- ---- the first that is found

pub find-none : (p : ℤ → Bool) (f : ℕ → ℤ) (from n : ℕ) → ((j : ℕ) → from ≤ j → j < from + n → p (f j) ≡ false) → find p (map f (count_up from n)) ≡ None
find-none p f from zero h = refl
find-none p f from (suc n) h = rw (h from (omega arith) (omega arith)) (find-none p f (from + 1) n (λ j a b. h j (omega arith) (omega arith)))

pub find-first : (p : ℤ → Bool) (f : ℕ → ℤ) (from n k : ℕ) → from ≤ k → k < from + n → ((j : ℕ) → from ≤ j → j < k → p (f j) ≡ false) → p (f k) ≡ true
    → find p (map f (count_up from n)) ≡ Some (f k)
find-first p f from zero k low high before here = absurd (omega arith)
find-first p f from (suc n) k low high before here =
    at (from == k) refl (λ less. find-first p f (from + 1) n k (omega arith) (omega arith) (λ j a b. before j (omega arith) b) here)
  where
    at : (b : Bool) → (from == k) ≡ b → (from < k → find p (map f (count_up (from + 1) n)) ≡ Some (f k)) → find p (map f (count_up from (suc n))) ≡ Some (f k)
    at true e rest = let same : from ≡ k = grind (arith, nat_tests) in rw (ap (λ j. p (f j)) same ∙ here) (ap (λ j. Some (f j)) same)
    at false e rest = let less : from < k = grind (arith, nat_tests) in rw (before from (omega arith) less) (rest less)

-- ---- the numbers of a range

few_by : (t : Bool) (d n k : ℕ) → k < cond t ((d - 1) / n + 1) 0 → (t ≡ true) × (k * n ≤ d - 1)
few_by true d n k few = (refl, steps d n k few)
few_by false d n k few = absurd (omega arith)

pub range_fits : (a b s : ℤ) (k : ℕ) → FitsSigned w128 a → FitsSigned w128 b → s ≢ pos 0 → k < range_count (range_by a b s) → FitsSigned w128 (range_number (range_by a b s) k)
range_fits a b (pos n) k low high some few =
    let by = few_by (int_lt a b) (unsigned_abs (b -ℤ a)) n k few in
    let in_range = up a b (k * n) by.0 by.1 in
    subst (λ z. FitsSigned w128 (a +ℤ z)) (sym (pos-*ℤ-pos k n)) (between a (a +ℤ pos (k * n)) b low high in_range.0 in_range.1)
range_fits a b (negsuc n) k low high some few =
    let by = few_by (int_lt b a) (unsigned_abs (b -ℤ a)) (suc n) k few in
    let in_range = down a b (k * suc n) by.0 by.1 in
    subst (λ z. FitsSigned w128 (a +ℤ z)) (sym (pos-*ℤ-negsuc k n)) (between b (a +ℤ neg_ℤ (pos (k * suc n))) a high low in_range.0 in_range.1)

-- the number that was looked at
pub looked_at : (r : Range) (number : ℤ) (k : ℕ) → FitsSigned w128 r.start → FitsSigned w128 r.stop → r.step ≢ pos 0 → k < range_count (range_from r)
    → number ≡ int_wrap w128 (range_number (range_from r) k) → number ≡ range_number (range_from r) k
looked_at r number k start stop some few is = is ∙ int_wrap_fits w128 (range_number (range_from r) k) (range_fits r.start r.stop r.step k start stop some few)

-- ---- between the first and the last

inside : (low high a z b : ℤ) → (int_le low a && int_le a high) ≡ true → (int_le low b && int_le b high) ≡ true → (a ≤ℤ z) × (z ≤ℤ b) ⊎ (b ≤ℤ z) × (z ≤ℤ a)
    → (int_le low z && int_le z high) ≡ true
inside low high a z b first last way = grind (arith, ints)

lower : (a : ℤ) (x y : ℕ) → x ≤ y → (a +ℤ neg_ℤ (pos y)) ≤ℤ (a +ℤ neg_ℤ (pos x))
lower a zero zero few = omega (arith, ints)
lower a zero (suc y) few = omega (arith, ints)
lower a (suc x) zero few = absurd (omega arith)
lower a (suc x) (suc y) few = omega (arith, ints)

-- a kind has the numbers between two that it has
pub ends_fit : (kind : Kind) (r : creation.Range) (k m : ℕ) → k ≤ m → fits kind (range_number r 0) ≡ true → fits kind (range_number r m) ≡ true → fits kind (range_number r k) ≡ true
ends_fit kind r k m few first last =
    inside (lowest kind) (highest kind) (range_number r 0) (range_number r k) (range_number r m) first last (way r.start r.step)
  where
    way : (a s : ℤ) → ((a +ℤ (pos 0 *ℤ s)) ≤ℤ (a +ℤ (pos k *ℤ s))) × ((a +ℤ (pos k *ℤ s)) ≤ℤ (a +ℤ (pos m *ℤ s))) ⊎ ((a +ℤ (pos m *ℤ s)) ≤ℤ (a +ℤ (pos k *ℤ s))) × ((a +ℤ (pos k *ℤ s)) ≤ℤ (a +ℤ (pos 0 *ℤ s)))
    way a (pos n) = rw (pos-*ℤ-pos k n, pos-*ℤ-pos m n, pos-*ℤ-pos 0 n) (inl (let more : k * n ≤ m * n = mul-le-mul_right n few in (omega (arith, ints), omega (arith, ints))))
    way a (negsuc n) = rw (pos-*ℤ-negsuc k n, pos-*ℤ-negsuc m n, pos-*ℤ-negsuc 0 n) (inr (let more : k * suc n ≤ m * suc n = mul-le-mul_right (suc n) few in (lower a (k * suc n) (m * suc n) more, lower a (0 * suc n) (k * suc n) (omega arith))))
