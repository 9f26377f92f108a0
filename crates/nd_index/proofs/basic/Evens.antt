-- The positions of a slice are even steps apart.
use Rattle.std.proofs.Common.{◌≡◌, ℕ, zero, suc, ◌+◌, ◌-◌, ◌*◌, ◌/◌, ◌^◌, ◌<◌, ◌≤◌, map, get_or, refl, sym, ◌∙◌, inl, inr, arith}
use Rattle.std.specs.Prelude.{ℤ, pos, ◌+ℤ◌, neg_ℤ, nat_lt, unsigned_abs}
use Rattle.std.proofs.Math.Nat.{div-mul-le_self, mul-le-mul_right}
use Rattle.std.proofs.lemmas.Bool.{cases_Bool}
use Rattle.std.proofs.lemmas.Bool.Decides.{nat_tests}
use Rattle.std.proofs.lemmas.Int.{ints}
use Rattle.std.proofs.lemmas.List.{length-map}
use Rattle.nd_model.specs.Indexing.Slicing.{steps, upwards, downwards}
use Rattle.nd_model.specs.Arrays.Tuple.{count_up}
use Rattle.nd_model.proofs.Tuples.{length-count_up}
use Rattle.nd_index.specs.Basic.Layouts.{step_of, ArePositions}
use Rattle.nd_index.specs.declared.basic.positions.Positions.{Positions}

-- two steps fit
pub two_steps : (a b s : ℕ) → 1 < steps a b s → a + s < b
two_steps a b s many = elim (cases_Bool (nat_lt a b)) [
  | inl is ↦
      let lt : a < b = grind (arith, nat_tests) in let many' : 1 < suc ((b - a - 1) / s) = rw is at many in
      let one : 1 * s ≤ ((b - a - 1) / s) * s = mul-le-mul_right s (omega arith) in
      omega (arith, div-mul-le_self (b - a - 1) s, one)
  | inr other ↦ let few : 1 < 0 = rw other at many in absurd (omega arith)
]

-- and each step before the end
pub within_steps : (a b s k : ℕ) → k < steps a b s → a + k * s < b
within_steps a b s k few = elim (cases_Bool (nat_lt a b)) [
  | inl is ↦
      let lt : a < b = grind (arith, nat_tests) in let few' : k < suc ((b - a - 1) / s) = rw is at few in
      let all : k * s ≤ ((b - a - 1) / s) * s = mul-le-mul_right s (omega arith) in
      omega (arith, div-mul-le_self (b - a - 1) s, all)
  | inr other ↦ let none : k < 0 = rw other at few in absurd (omega arith)
]

-- a list of at least two
numbered : (f : ℕ → ℕ) (count : ℕ) → 1 < count → (get_or (map f (count_up 0 count)) 0 0 ≡ f 0) × (step_of (map f (count_up 0 count)) ≡ pos (f 1) +ℤ neg_ℤ (pos (f 0)))
numbered f zero lt = absurd (omega arith)
numbered f (suc zero) lt = absurd (omega arith)
numbered f (suc (suc n)) lt = (refl, refl)

pub up_positions : (p : Positions) (a b : ℕ) (s : ℤ) → p.count ≡ steps a b (unsigned_abs s) → 1 < p.count → p.first ≡ a → p.step ≡ s → pos 0 ≡ s +ℤ neg_ℤ (pos (unsigned_abs s)) → b ≤ 2 ^ 32 → ArePositions p (upwards a b (unsigned_abs s))
up_positions p a b s count many first step up le =
    let n : ℕ = unsigned_abs s in
    let two : a + n < b = two_steps a b n (omega (arith, count, many)) in
    let is = numbered (λ k. a + k * n) (steps a b n) (omega (arith, count, many)) in
    record {
      first = first ∙ sym (is.0 ∙ start a n);
      step = step ∙ far s n a up ∙ sym is.1;
      count = count ∙ sym (length-map (count_up 0 (steps a b n)) (λ k. a + k * n) ∙ length-count_up 0 (steps a b n));
      near = omega arith;
      short = rw step (omega arith);
    }
  where
    start : (a n : ℕ) → a + 0 * n ≡ a
    start a n = omega arith

    far : (s : ℤ) (n a : ℕ) → pos 0 ≡ s +ℤ neg_ℤ (pos n) → s ≡ pos (a + 1 * n) +ℤ neg_ℤ (pos (a + 0 * n))
    far s n a up = let one : 1 * n ≡ n = omega arith in let none : 0 * n ≡ 0 = omega arith in rw (one, none) (omega (arith, ints, up))

pub down_positions : (p : Positions) (a b : ℕ) (s : ℤ) → p.count ≡ steps b a (unsigned_abs s) → 1 < p.count → p.first ≡ a - 1 → p.step ≡ s → pos 0 ≡ s +ℤ pos (unsigned_abs s) → a ≤ 2 ^ 32 → ArePositions p (downwards a b (unsigned_abs s))
down_positions p a b s count many first step down le =
    let n : ℕ = unsigned_abs s in
    let two : b + n < a = two_steps b a n (omega (arith, count, many)) in
    let is = numbered (λ k. a - 1 - k * n) (steps b a n) (omega (arith, count, many)) in
    record {
      first = first ∙ sym (is.0 ∙ start a n);
      step = step ∙ far s n a b two down ∙ sym is.1;
      count = count ∙ sym (length-map (count_up 0 (steps b a n)) (λ k. a - 1 - k * n) ∙ length-count_up 0 (steps b a n));
      near = omega arith;
      short = rw step (omega arith);
    }
  where
    start : (a n : ℕ) → a - 1 - 0 * n ≡ a - 1
    start a n = omega arith

    far : (s : ℤ) (n a b : ℕ) → b + n < a → pos 0 ≡ s +ℤ pos n → s ≡ pos (a - 1 - 1 * n) +ℤ neg_ℤ (pos (a - 1 - 0 * n))
    far s n a b two down = let one : 1 * n ≡ n = omega arith in let none : 0 * n ≡ 0 = omega arith in rw (one, none) (omega (arith, ints, down))
