-- The numbers that a walk has before it.
use Rattle.std.proofs.Common.{◌≡◌, ℕ, zero, suc, ◌+◌, ◌<◌, ◌≤◌, List, [], ◌∷◌, ◌++◌, map, length, drop, get_or, refl, ap, arith}
use Rattle.nd_places.proofs.Fronts.{drop_one}

-- in a run: the next number, and those behind it
pub in_run : {A : Type 0} (f : ℕ → A) (run rest : List ℕ) (k : ℕ) → k < length run → map f (drop k run ++ rest) ≡ f (get_or run k 0) ∷ map f (drop (k + 1) run ++ rest)
in_run f run rest k lt = ap (λ l. map f (l ++ rest)) (drop_one run k 0 lt)

-- behind it
pub behind_run : {A : Type 0} (f : ℕ → A) (run rest : List ℕ) (k : ℕ) → length run ≤ k → map f (drop k run ++ rest) ≡ map f rest
behind_run f [] rest zero le = refl
behind_run f [] rest (suc k) le = refl
behind_run f (p ∷ run) rest zero le = absurd (omega arith)
behind_run f (p ∷ run) rest (suc k) le = behind_run f run rest k (omega arith)
