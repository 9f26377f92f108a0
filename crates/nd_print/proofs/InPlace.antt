-- A list that is changed item by item.
use Rattle.std.proofs.Common.{◌≡◌, ℕ, zero, suc, ◌+◌, ◌<◌, List, [], ◌∷◌, ◌++◌, map, length, get_or, take, drop, refl, ap, arith, add-one}
use Rattle.std.proofs.Math.ListN.{set}

module _ {X : Type 0} (f : X → X) where
  pub changed_at : (xs : List X) (i : ℕ) (d : X) → i < length xs → get_or (map f (take i xs) ++ drop i xs) i d ≡ get_or xs i d
  changed_at [] i d lt = absurd (omega arith)
  changed_at (x ∷ xs) zero d lt = refl
  changed_at (x ∷ xs) (suc i) d lt = changed_at xs i d (omega arith)

  changed : (xs : List X) (i : ℕ) (d : X) → i < length xs → set (map f (take i xs) ++ drop i xs) i (f (get_or xs i d)) ≡ map f (take (suc i) xs) ++ drop (suc i) xs
  changed [] i d lt = absurd (omega arith)
  changed (x ∷ xs) zero d lt = refl
  changed (x ∷ xs) (suc i) d lt = ap (λ l. f x ∷ l) (changed xs i d (omega arith))

  pub changed_more : (xs : List X) (i : ℕ) (d : X) → i < length xs → set (map f (take i xs) ++ drop i xs) i (f (get_or xs i d)) ≡ map f (take (i + 1) xs) ++ drop (i + 1) xs
  changed_more xs i d lt = rw (add-one i) (changed xs i d lt)
