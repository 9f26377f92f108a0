-- Lanes that stand one after another.
use Rattle.std.proofs.Common.{◌≡◌, ℕ, ℤ, zero, suc, ◌-◌, ◌<◌, List, [], ◌∷◌, ◌++◌, map, length, take, drop, refl, sym, ap, ◌∙◌, arith}
use Rattle.std.specs.List.{flat_map}
use Rattle.std.proofs.Math.Seq.{take-append_seam, drop-append_seam}
use Rattle.nd_reduce.specs.Folds.Lanes.{lanes_in}

pub next_lane : (n m : ℕ) (zs : List ℤ) → 0 < m → lanes_in n m zs ≡ take n zs ∷ lanes_in n (m - 1) (drop n zs)
next_lane n zero zs lt = absurd (omega arith)
next_lane n (suc m) zs lt = let e : m ≡ suc m - 1 = omega arith in ap (λ k. take n zs ∷ lanes_in n k (drop n zs)) e

pub lanes_are : {X : Type 0} (n : ℕ) (row : X → List ℤ) → ((x : X) → length (row x) ≡ n) → (xs : List X) → lanes_in n (length xs) (flat_map row xs) ≡ map row xs
lanes_are n row long [] = refl
lanes_are n row long (x ∷ xs) =
    let rest : List ℤ = flat_map row xs in
    (λ i. take (sym (long x) i) (row x ++ rest) ∷ lanes_in n (length xs) (drop (sym (long x) i) (row x ++ rest)))
    ∙ (λ i. take-append_seam (row x) rest i ∷ lanes_in n (length xs) (drop-append_seam (row x) rest i))
    ∙ ap (λ l. row x ∷ l) (lanes_are n row long xs)
