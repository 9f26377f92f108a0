-- Powers of whole numbers, and of their lowest bits.
use Rattle.std.proofs.Common.{◌≡◌, ℕ, zero, suc, ◌+◌, ◌*◌, ◌/◌, ◌%◌, ◌^◌, Bool, true, false, cond, ℤ, pos, negsuc, neg_ℤ, ◌*ℤ◌, refl, sym, ap, ap₂, ◌∙◌, arith}
use Rattle.std.specs.Prelude.{not, ◌==◌}
use Rattle.std.specs.Int.{Width, int_pow, int_wrap}
use Rattle.std.proofs.Math.IntN.{pos-*ℤ-pos, negsuc-*ℤ-pos, negsuc-*ℤ-negsuc, *ℤ-negsuc, *ℤ-zero, *ℤ_comm, neg_ℤ-neg_ℤ}
use Rattle.std.proofs.lemmas.Int.{ints, int_wrap-mul_left, int_wrap-mul_right}
use Rattle.std.proofs.lemmas.Bool.Decides.{nat_tests}
use Rattle.std.proofs.Math.Nat.{mul-zero, mul_comm, mul_assoc, pow-zero}
use Rattle.std.proofs.lemmas.Grind.{pow_more}

pub int_pow-zero : (z : ℤ) → int_pow z 0 ≡ pos 1
int_pow-zero (pos a) = ap pos (pow-zero a)
int_pow-zero (negsuc a) = ap pos (pow-zero (suc a))

next_parity : (t : Bool) (n : ℕ) → (n % 2 == 0) ≡ t → (suc n % 2 == 0) ≡ not t
next_parity true n e = grind (arith, nat_tests)
next_parity false n e = grind (arith, nat_tests)

abbrev signed : Bool → ℕ → ℤ
signed t m = cond t (pos m) (neg_ℤ (pos m))

times : (t : Bool) (a m : ℕ) → signed (not t) (suc a * m) ≡ negsuc a *ℤ signed t m
times true a m = sym (negsuc-*ℤ-pos a m)
times false a zero = ap pos (mul-zero (suc a)) ∙ sym (*ℤ-zero (negsuc a))
times false a (suc m) = sym (negsuc-*ℤ-negsuc a m)

more : (a n : ℕ) → a ^ suc n ≡ a * a ^ n
more a n = let last : n + 1 ≡ suc n = omega arith in sym (ap (λ k. a ^ k) last) ∙ pow_more a n ∙ mul_comm (a ^ n) a

pub int_pow-suc : (z : ℤ) (n : ℕ) → int_pow z (suc n) ≡ z *ℤ int_pow z n
int_pow-suc (pos a) n = ap pos (more a n) ∙ sym (pos-*ℤ-pos a (a ^ n))
int_pow-suc (negsuc a) n =
    ap (λ t. signed t (suc a ^ suc n)) (next_parity (n % 2 == 0) n refl) ∙ ap (signed (not (n % 2 == 0))) (more (suc a) n) ∙ times (n % 2 == 0) a (suc a ^ n)

-- ---- products, by their signs

by_minus : (z : ℤ) (n : ℕ) → z *ℤ neg_ℤ (pos n) ≡ neg_ℤ (z *ℤ pos n)
by_minus z zero = *ℤ-zero z ∙ sym (ap neg_ℤ (*ℤ-zero z))
by_minus z (suc n) = *ℤ-negsuc z n

abbrev same : Bool → Bool → Bool
same true t = t
same false t = not t

minus_by : (m n : ℕ) → neg_ℤ (pos m) *ℤ pos n ≡ neg_ℤ (pos (m * n))
minus_by m n = *ℤ_comm (neg_ℤ (pos m)) (pos n) ∙ by_minus (pos n) m ∙ ap neg_ℤ (pos-*ℤ-pos n m) ∙ ap (λ k. neg_ℤ (pos k)) (mul_comm n m)

by_signs : (s t : Bool) (m n : ℕ) → signed s m *ℤ signed t n ≡ signed (same s t) (m * n)
by_signs true true m n = pos-*ℤ-pos m n
by_signs true false m n = by_minus (pos m) n ∙ ap neg_ℤ (pos-*ℤ-pos m n)
by_signs false true m n = minus_by m n
by_signs false false m n = by_minus (neg_ℤ (pos m)) n ∙ ap neg_ℤ (minus_by m n) ∙ neg_ℤ-neg_ℤ (pos (m * n))

same_assoc : (s t u : Bool) → same (same s t) u ≡ same s (same t u)
same_assoc true t u = refl
same_assoc false true u = refl
same_assoc false false true = refl
same_assoc false false false = refl

signed_assoc : (s t u : Bool) (a b c : ℕ) → (signed s a *ℤ signed t b) *ℤ signed u c ≡ signed s a *ℤ (signed t b *ℤ signed u c)
signed_assoc s t u a b c =
    ap (λ z. z *ℤ signed u c) (by_signs s t a b) ∙ by_signs (same s t) u (a * b) c
    ∙ ap₂ (λ v n. signed v n) (same_assoc s t u) (mul_assoc a b c)
    ∙ sym (ap (λ z. signed s a *ℤ z) (by_signs t u b c) ∙ by_signs s (same t u) a (b * c))

as_signed : (z : ℤ) → (t : Bool) × (m : ℕ) × (z ≡ signed t m)
as_signed (pos a) = (true, a, refl)
as_signed (negsuc a) = (false, suc a, refl)

assoc : (a b c : ℤ) → (a *ℤ b) *ℤ c ≡ a *ℤ (b *ℤ c)
assoc a b c =
    let x = as_signed a in let y = as_signed b in let z = as_signed c in
    ap₂ (λ p q. p *ℤ q) (ap₂ (λ p q. p *ℤ q) x.2 y.2) z.2 ∙ signed_assoc x.0 y.0 z.0 x.1 y.1 z.1
    ∙ sym (ap₂ (λ p q. p *ℤ q) x.2 (ap₂ (λ p q. p *ℤ q) y.2 z.2))

-- the square's powers are every second one
pub int_pow-square : (z : ℤ) (m : ℕ) → int_pow (z *ℤ z) m ≡ int_pow z (2 * m)
int_pow-square z zero = int_pow-zero (z *ℤ z) ∙ sym (let none : 2 * 0 ≡ 0 = omega arith in ap (int_pow z) none ∙ int_pow-zero z)
int_pow-square z (suc m) =
    let two : 2 * suc m ≡ suc (suc (2 * m)) = omega arith in
    int_pow-suc (z *ℤ z) m ∙ ap (λ x. (z *ℤ z) *ℤ x) (int_pow-square z m) ∙ assoc z z (int_pow z (2 * m))
    ∙ ap (λ x. z *ℤ x) (sym (int_pow-suc z (2 * m))) ∙ sym (int_pow-suc z (suc (2 * m))) ∙ ap (int_pow z) (sym two)

-- a base may be wrapped first
pub wrap_base : (w : Width) (x y : ℤ) (m : ℕ) → int_wrap w (int_pow (int_wrap w x) m *ℤ y) ≡ int_wrap w (int_pow x m *ℤ y)
wrap_base w x y zero = ap (λ p. int_wrap w (p *ℤ y)) (int_pow-zero (int_wrap w x) ∙ sym (int_pow-zero x))
wrap_base w x y (suc m) =
    let b : ℤ = int_wrap w x in
    ap (λ p. int_wrap w (p *ℤ y)) (int_pow-suc b m) ∙ ap (int_wrap w) (assoc b (int_pow b m) y) ∙ int_wrap-mul_left w x (int_pow b m *ℤ y)
    ∙ sym (int_wrap-mul_right w x (int_pow b m *ℤ y)) ∙ ap (λ p. int_wrap w (x *ℤ p)) (wrap_base w x y m) ∙ int_wrap-mul_right w x (int_pow x m *ℤ y)
    ∙ ap (int_wrap w) (sym (assoc x (int_pow x m) y)) ∙ ap (λ p. int_wrap w (p *ℤ y)) (sym (int_pow-suc x m))

-- one step by squares, at an even exponent and at an odd one
pub even_step : (w : Width) (s p next : ℤ) (n : ℕ) → n % 2 ≡ 0 → next ≡ int_wrap w (s *ℤ s) → int_wrap w (int_pow next (n / 2) *ℤ p) ≡ int_wrap w (int_pow s n *ℤ p)
even_step w s p next n even is =
    let half : 2 * (n / 2) ≡ n = omega arith in
    ap (λ b. int_wrap w (int_pow b (n / 2) *ℤ p)) is ∙ wrap_base w (s *ℤ s) p (n / 2)
    ∙ ap (λ b. int_wrap w (b *ℤ p)) (int_pow-square s (n / 2) ∙ ap (int_pow s) half)

pub odd_step : (w : Width) (s p next more' : ℤ) (n : ℕ) → n % 2 ≡ 1 → next ≡ int_wrap w (s *ℤ s) → more' ≡ int_wrap w (s *ℤ p)
    → int_wrap w (int_pow next (n / 2) *ℤ more') ≡ int_wrap w (int_pow s n *ℤ p)
odd_step w s p next more' n odd is by =
    let half : suc (2 * (n / 2)) ≡ n = omega arith in
    let q : ℤ = int_pow s (2 * (n / 2)) in
    ap (λ b. int_wrap w (int_pow next (n / 2) *ℤ b)) by ∙ int_wrap-mul_right w (int_pow next (n / 2)) (s *ℤ p)
    ∙ ap (λ b. int_wrap w (int_pow b (n / 2) *ℤ (s *ℤ p))) is ∙ wrap_base w (s *ℤ s) (s *ℤ p) (n / 2)
    ∙ ap (λ b. int_wrap w (b *ℤ (s *ℤ p))) (int_pow-square s (n / 2))
    ∙ ap (int_wrap w) (sym (assoc q s p) ∙ ap (λ b. b *ℤ p) (*ℤ_comm q s ∙ sym (int_pow-suc s (2 * (n / 2))) ∙ ap (int_pow s) half))

by_one : (z : ℤ) → z *ℤ pos 1 ≡ z
by_one z = omega (arith, ints)

-- ---- small exponents

pub int_pow-two : (z : ℤ) → int_pow z 2 ≡ z *ℤ z
int_pow-two z = int_pow-suc z 1 ∙ ap (λ x. z *ℤ x) (int_pow-suc z 0 ∙ ap (λ x. z *ℤ x) (int_pow-zero z) ∙ by_one z)

pub int_pow-three : (z : ℤ) → int_pow z 3 ≡ z *ℤ (z *ℤ z)
int_pow-three z = int_pow-suc z 2 ∙ ap (λ x. z *ℤ x) (int_pow-two z)

-- ---- bases that are wrapped

-- of a power too
pub wrap_alone : (w : Width) (x : ℤ) (m : ℕ) → int_wrap w (int_pow (int_wrap w x) m) ≡ int_wrap w (int_pow x m)
wrap_alone w x m =
    ap (int_wrap w) (sym (by_one (int_pow (int_wrap w x) m))) ∙ wrap_base w x (pos 1) m ∙ ap (int_wrap w) (by_one (int_pow x m))
