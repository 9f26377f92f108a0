-- A product with a divisor's reciprocal gives the quotient, and what is made as the reciprocal is one.
use Rattle.std.proofs.Common.{◌≡◌, ℕ, ◌+◌, ◌-◌, ◌*◌, ◌/◌, ◌^◌, ◌<◌, ◌≤◌, sym, ap, subst, ◌∙◌, arith, mod-lt, div-mul-le_self, div-add-mod', lt_of_mul-lt-mul_right}
use Rattle.std.proofs.Math.Nat.{lt_of_not-le, mul-le-mul_left, mul-le-mul_right, div-div-eq-div-mul}
use Rattle.std.proofs.Math.Pow.{pow_mono}
use Rattle.std.proofs.lemmas.Nat.{div-mul-add}
use Rattle.std.proofs.lemmas.Grind.{pow_more}
use Rattle.nd_ufunc.specs.Scalar.Division.{IsReciprocal}

-- ---- quotients

module _ (w h d m n q t : ℕ) (reciprocal : IsReciprocal w h d m) (power : 0 < h) (few : n < w) (is : t ≡ n * m / w) (from : q * d ≤ n) (to : n < q * d + d) where
  some : 0 < w
  some = omega (arith, few)

  not_below : q * (2 * h) ≤ t + n
  not_below =
      let below : n * m + 1 ≤ t * w + w = omega (arith, div-add-mod' (n * m) w, mod-lt (n * m) some, ap (λ k. k * w) is) in
      let parts : q * (2 * h * w) ≤ q * ((w + m) * d) = mul-le-mul_left q reciprocal.0 in
      let all : q * d * (w + m) ≤ n * (w + m) = mul-le-mul_right (w + m) from in
      let less : q * (2 * h) < t + n + 1 = lt_of_mul-lt-mul_right w {m = q * (2 * h)} {n = t + n + 1} (omega (arith, below, parts, all)) in
      omega (arith, less)

  not_above : t + n < (q + 1) * (2 * h)
  not_above =
      let product : t * w ≤ n * m = subst (λ k. k * w ≤ n * m) (sym is) (div-mul-le_self (n * m) w) in
      let scaled : t * w * d ≤ n * m * d = mul-le-mul_right d product in
      let near : n * ((w + m) * d) ≤ n * (2 * h * w + 2 * h) = mul-le-mul_left n reciprocal.1 in
      let most : (n + 1) * (2 * h) ≤ w * (2 * h) = mul-le-mul_right (2 * h) (omega (arith, few)) in
      let next : (n + 1) * (2 * h * w) ≤ (q * d + d) * (2 * h * w) = mul-le-mul_right (2 * h * w) (omega (arith, to)) in
      lt_of_mul-lt-mul_right (w * d) {m = t + n} {n = (q + 1) * (2 * h)} (omega (arith, scaled, near, most, next, power))

  halved : (t + n) / 2 / h ≡ q
  halved =
      let whole : q * (2 * h) + (t + n - q * (2 * h)) ≡ t + n = omega (arith, not_below) in
      let rest : t + n - q * (2 * h) < 2 * h = omega (arith, not_below, not_above) in
      div-div-eq-div-mul (t + n) 2 h ∙ ap (λ k. k / (2 * h)) (sym whole) ∙ div-mul-add q (2 * h) (t + n - q * (2 * h)) rest

pub quotient_is : (w h d m n t : ℕ) → IsReciprocal w h d m → 0 < d → 0 < h → n < w → t ≡ n * m / w → (t + n) / 2 / h ≡ n / d
quotient_is w h d m n t reciprocal divisor power few is =
    halved w h d m n (n / d) t reciprocal power few is (div-mul-le_self n d) (omega (arith, div-add-mod' n d, mod-lt n divisor))

-- ---- reciprocals

-- of a divisor that has so much less than twice the power
pub reciprocal_is : (w h d gap q : ℕ) → 0 < d → gap + d ≡ 2 * h → q ≡ gap * w / d → IsReciprocal w h d (q + 1)
reciprocal_is w h d gap q divisor all is =
    let from : q * d ≤ gap * w = subst (λ k. k * d ≤ gap * w) (sym is) (div-mul-le_self (gap * w) d) in
    let to : gap * w < q * d + d = omega (arith, div-add-mod' (gap * w) d, mod-lt (gap * w) divisor, ap (λ k. k * d) is) in
    let scaled : (gap + d) * w ≡ 2 * h * w = ap (λ k. k * w) all in
    (omega (arith, to, scaled), omega (arith, from, scaled, all))

-- as it is tested
pub reciprocal_if : (w h d m : ℕ) → d ≤ 2 * h → (2 * h - d) * w ≤ m * d → m * d - (2 * h - d) * w ≤ 2 * h → IsReciprocal w h d m
reciprocal_if w h d m below least most =
    let all : 2 * h - d + d ≡ 2 * h = omega (arith, below) in
    let scaled : (2 * h - d + d) * w ≡ 2 * h * w = ap (λ k. k * w) all in
    (omega (arith, least, scaled), omega (arith, least, most, scaled))

-- the greatest power of two below a number
not_more : (i j n : ℕ) → 2 ^ i < n → n ≤ 2 * 2 ^ j → i < j + 1
not_more i j n above below = lt_of_not-le {n = j + 1} {m = i} (λ (many : j + 1 ≤ i). omega (arith, above, below, pow_mono {i = j + 1} {j = i} many, pow_more 2 j))

pub same_power : (i j n : ℕ) → 2 ^ i < n → n ≤ 2 * 2 ^ i → 2 ^ j < n → n ≤ 2 * 2 ^ j → i ≡ j
same_power i j n above below above' below' = omega (arith, not_more i j n above below', not_more j i n above' below)
