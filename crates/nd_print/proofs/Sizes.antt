-- Numbers of elements.
use Rattle.std.proofs.Common.{◌≡◌, ◌==◌, Bool, false, ℕ, zero, suc, ◌-◌, ◌*◌, ◌^◌, ◌<◌, ◌≤◌, List, [], ◌∷◌, length, get_or, take, drop, refl, ap, ◌∙◌, arith}
use Rattle.std.proofs.lemmas.List.{take_rest, length-drop}
use Rattle.std.proofs.Math.Nat.{mul-le-mul_left}
use Rattle.nd_model.specs.Arrays.Tuple.{elements_of}

pub below_is : (shape : List ℕ) → take (length shape - 1) (drop 1 shape) ≡ drop 1 shape
below_is shape = take_rest shape 1

pub record Sizes (n rest all : ℕ) : Type 0 where
  pub first : 0 < n
  pub some : 0 < rest
  pub product : all ≡ n * rest
  pub most : n ≤ all
  pub part : rest ≤ all

sizes_of : (m r : ℕ) → 0 < m * r → Sizes m r (m * r)
sizes_of zero r some = absurd (omega arith)
sizes_of (suc m) zero some = absurd (omega arith)
sizes_of (suc m) (suc r) some = record {
  first = omega arith;
  some = omega arith;
  product = refl;
  most = omega (arith, mul-le-mul_left (suc m) (le_one r));
  part = omega arith;
}
  where
    le_one : (r : ℕ) → 1 ≤ suc r
    le_one r = omega arith

pub sizes : (shape : List ℕ) → 0 < length shape → 0 < elements_of shape → Sizes (get_or shape 0 0) (elements_of (take (length shape - 1) (drop 1 shape))) (elements_of shape)
sizes [] axes some = absurd (omega arith)
sizes (n ∷ shape) axes some = rw (below_is (n ∷ shape)) (sizes_of n (elements_of shape) some)

pub few : (a b : ℕ) → a ≤ 2 ^ 24 → b ≤ 2 ^ 67 → a * b ≤ 2 ^ 91
few a b few_a few_b = omega (arith, mul-le-mul_left a few_b)

pub some_axes : (shape : List ℕ) (empty : Bool) → empty ≡ (length shape == 0) → empty ≡ false → 0 < length shape
some_axes [] empty is e = absurd (cc)
some_axes (n ∷ shape) empty is e = omega arith

pub length_below : (shape : List ℕ) → length (take (length shape - 1) (drop 1 shape)) ≡ length shape - 1
length_below shape = ap (λ l. length l) (below_is shape) ∙ length-drop 1 shape
