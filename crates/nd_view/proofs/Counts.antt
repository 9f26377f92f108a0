-- Products of lengths.
use Rattle.std.proofs.Common.{◌≡◌, ℕ, zero, suc, ◌+◌, ◌*◌, ◌<◌, ◌≤◌, Bool, true, false, nat_eq, List, [], ◌∷◌, length, get_or, drop, arith, add-one, drop-cons}
use Rattle.std.specs.List.{list_any}
use Rattle.std.proofs.lemmas.Bool.Decides.{nat_tests}
use Rattle.std.proofs.Math.Nat.{mul-le-mul_left, mul-le-mul_right}
use Rattle.nd_model.specs.Arrays.Tuple.{elements_of}

abbrev has_zero : List ℕ → Bool
has_zero xs = list_any (λ y. nat_eq y 0) xs

-- an axis of length 0 leaves no elements
pub none : (xs : List ℕ) → has_zero xs ≡ true → elements_of xs ≡ 0
none [] e = cc
none (zero ∷ xs) e = omega arith
none (suc n ∷ xs) e = let test : nat_eq (suc n) 0 ≡ false = grind (arith, nat_tests) in let rest : elements_of xs ≡ 0 = none xs (rw test at e) in rw rest (omega arith)

pub some : (xs : List ℕ) → has_zero xs ≡ false → 0 < elements_of xs
some [] e = omega arith
some (zero ∷ xs) e = cc
some (suc n ∷ xs) e = let test : nat_eq (suc n) 0 ≡ false = grind (arith, nat_tests) in let rest : 0 < elements_of xs = some xs (rw test at e) in omega arith

-- the first of the axes that are left
pub axis : (xs : List ℕ) (i : ℕ) → i < length xs → elements_of (drop i xs) ≡ get_or xs i 0 * elements_of (drop (i + 1) xs)
axis xs i lt = rw (add-one, drop-cons xs i 0)

pub rest_some : (x r : ℕ) → 0 < x * r → 0 < r
rest_some x zero lt = omega arith
rest_some x (suc r) lt = omega arith

pub factor_le : (a x r t : ℕ) → a * (x * r) ≡ t → 0 < r → a * x ≤ t
factor_le a x (suc r) t e lt = omega arith
factor_le a x zero t e lt = absurd (omega arith)

-- each axis has an element, and no more than all axes together
pub factor : (xs : List ℕ) (i d : ℕ) → 0 < elements_of xs → i < length xs → (0 < get_or xs i d) × (get_or xs i d ≤ elements_of xs)
factor [] i d many lt = absurd (omega arith)
factor (zero ∷ xs) i d many lt = absurd (omega arith)
factor (suc n ∷ xs) zero d many lt =
    let one : 1 ≤ elements_of xs = omega (arith, rest_some (suc n) (elements_of xs) many) in
    let own : suc n * 1 ≤ suc n * elements_of xs = mul-le-mul_left (suc n) one in (omega arith, omega (arith, own))
factor (suc n ∷ xs) (suc i) d many lt =
    let others : 1 * elements_of xs ≤ suc n * elements_of xs = mul-le-mul_right (elements_of xs) (omega arith) in
    let below = factor xs i d (rest_some (suc n) (elements_of xs) many) (omega arith) in (below.0, omega (arith, others, below.1))
