-- Bytes that are put to places one after another, and to a run of places at once.
use Rattle.std.proofs.Common.{◌≡◌, ℕ, zero, suc, ◌+◌, ◌<◌, ◌≤◌, List, [], ◌∷◌, ◌++◌, length, take, drop, map, refl, sym, ap, ◌∙◌, arith, append-nil}
use Rattle.std.specs.Prelude.{slice_set}
use Rattle.std.specs.List.{zip}
use Rattle.nd_model.specs.Arrays.Element.{with_bytes}
use Rattle.nd_model.specs.Arrays.Tuple.{count_up}
use Rattle.nd_model.specs.Cells.Session.{put}

pub put-append : (vs ws : List (ℕ × ℕ)) (xs : List ℕ) → put (vs ++ ws) xs ≡ put ws (put vs xs)
put-append [] ws xs = refl
put-append (v ∷ vs) ws xs = put-append vs ws (slice_set xs v.0 v.1)

take-set : (xs : List ℕ) (p y : ℕ) (rest : List ℕ) → p < length xs → take (suc p) (slice_set xs p y) ++ rest ≡ take p xs ++ y ∷ rest
take-set [] p y rest lt = absurd (omega arith)
take-set (x ∷ xs) zero y rest lt = refl
take-set (x ∷ xs) (suc p) y rest lt = ap (λ l. x ∷ l) (take-set xs p y rest (omega arith))

drop-set : (xs : List ℕ) (p n y : ℕ) → p < n → drop n (slice_set xs p y) ≡ drop n xs
drop-set xs p zero y lt = absurd (omega arith)
drop-set [] p (suc n) y lt = refl
drop-set (x ∷ xs) zero (suc n) y lt = refl
drop-set (x ∷ xs) (suc p) (suc n) y lt = drop-set xs p n y (omega arith)

length-set : (xs : List ℕ) (p y : ℕ) → length (slice_set xs p y) ≡ length xs
length-set [] p y = refl
length-set (x ∷ xs) zero y = refl
length-set (x ∷ xs) (suc p) y = ap suc (length-set xs p y)

whole : (p : ℕ) (xs : List ℕ) → take p xs ++ drop p xs ≡ xs
whole zero xs = refl
whole (suc p) [] = refl
whole (suc p) (x ∷ xs) = ap (λ l. x ∷ l) (whole p xs)

-- a run of bytes is written as its bytes are put one after another
pub with_bytes-put : (ys : List ℕ) (p : ℕ) (xs : List ℕ) → p + length ys ≤ length xs → with_bytes xs p ys ≡ put (zip (count_up p (length ys)) ys) xs
with_bytes-put [] p xs le = let e : p + 0 ≡ p = omega arith in ap (λ k. take p xs ++ [] ++ drop k xs) e ∙ ap (λ l. l ++ drop p xs) (append-nil (take p xs)) ∙ whole p xs
with_bytes-put (y ∷ ys) p xs le =
    let set = slice_set xs p y in
    let next : p + 1 ≡ suc p = omega arith in
    let end : p + 1 + length ys ≡ p + suc (length ys) = omega arith in
    let behind : drop (p + 1 + length ys) set ≡ drop (p + suc (length ys)) xs = ap (λ k. drop k set) end ∙ drop-set xs p (p + suc (length ys)) y (omega arith) in
    sym (ap (λ l. take (p + 1) set ++ ys ++ l) behind ∙ ap (λ k. take k set ++ ys ++ drop (p + suc (length ys)) xs) next
    ∙ ap (λ l. l ++ drop (p + suc (length ys)) xs) (take-set xs p y ys (omega arith)))
    ∙ with_bytes-put ys (p + 1) set (omega (arith, length-set xs p y))

-- the first of several places that are counted up
pub take-count_up : (f : ℕ → ℕ) (p m n : ℕ) → n ≤ m → take n (map f (count_up p m)) ≡ map f (count_up p n)
take-count_up f p m zero le = refl
take-count_up f p zero (suc n) le = absurd (omega arith)
take-count_up f p (suc m) (suc n) le = ap (λ l. f p ∷ l) (take-count_up f (p + 1) m n (omega arith))
