-- What a move leaves of a list, where the values between its two places turn by one.
use Rattle.std.proofs.Common.{◌≡◌, ℕ, zero, suc, ◌+◌, ◌-◌, ◌<◌, ◌≤◌, List, [], ◌∷◌, ◌++◌, length, get_or, take, drop, ap, ap₂, ◌∙◌, arith}
use Rattle.std.proofs.lemmas.List.{append_assoc, length-take-le, take_at, drop_at}
use Rattle.std.proofs.Math.Seq.{take-suc}
use Rattle.std.specs.Prelude.{insert, remove}
use borrow.Rule.Slice.PartMut.{mid_of, put_mid}

module _ {X : Type 0} where
  pub turned_left : (xs ys : List X) (from to many : ℕ) (d : X) → from ≤ to → to < length xs → from + many ≡ to + 1
      → ys ≡ drop 1 (mid_of from many xs) ++ take 1 (mid_of from many xs) → put_mid from many xs ys ≡ insert (remove xs from) to (get_or xs from d)
  turned_left [] ys from to many d le lt count is = absurd (omega arith)
  turned_left (x ∷ xs) ys zero to zero d le lt count is = absurd (omega arith)
  turned_left (x ∷ xs) ys zero to (suc m) d le lt count is =
      let last : m ≡ to = omega arith in
      ap (λ l. l ++ drop m xs) is ∙ append_assoc (take m xs) (x ∷ []) (drop m xs) ∙ ap (λ n. take n xs ++ x ∷ drop n xs) last
  turned_left (x ∷ xs) ys (suc from) zero many d le lt count is = absurd (omega arith)
  turned_left (x ∷ xs) ys (suc from) (suc to) many d le lt count is = ap (λ l. x ∷ l) (turned_left xs ys from to many d (omega arith) (omega arith) (omega arith) is)

  pub turned_right : (xs ys : List X) (from to many : ℕ) (d : X) → to ≤ from → from < length xs → to + many ≡ from + 1
      → ys ≡ drop (length (mid_of to many xs) - 1) (mid_of to many xs) ++ take (length (mid_of to many xs) - 1) (mid_of to many xs) → put_mid to many xs ys ≡ insert (remove xs from) to (get_or xs from d)
  turned_right [] ys from to many d le lt count is = absurd (omega arith)
  turned_right (x ∷ xs) ys from zero many d le lt count is =
      let all : List X = x ∷ xs in
      let one : X = get_or all from d in
      let next : many ≡ suc from = omega arith in
      let part : take many all ≡ take from all ++ one ∷ [] = ap (λ n. take n all) next ∙ take-suc all from d lt in
      let place : length (take many all) - 1 ≡ from = (let long = length-take-le many all (omega arith) in omega arith) in
      let front : length (take from all) ≡ from = length-take-le from all (omega arith) in
      let two : drop from (take from all ++ one ∷ []) ++ take from (take from all ++ one ∷ []) ≡ one ∷ take from all = ap₂ (λ l r. l ++ r) (drop_at _ _ from front) (take_at _ _ from front) in
      let turned : ys ≡ one ∷ take from all = is ∙ ap₂ (λ n l. drop n l ++ take n l) place part ∙ two in
      ap₂ (λ l n. l ++ drop n all) turned next
  turned_right (x ∷ xs) ys zero (suc to) many d le lt count is = absurd (omega arith)
  turned_right (x ∷ xs) ys (suc from) (suc to) many d le lt count is = ap (λ l. x ∷ l) (turned_right xs ys from to many d (omega arith) (omega arith) (omega arith) is)
