-- The numbers of a side, one more and part by part.
use Rattle.std.proofs.Common.{◌≡◌, ℕ, zero, suc, ◌+◌, ◌<◌, ℤ, true, List, [], ◌∷◌, ◌++◌, map, length, take, drop, sym, ap, ◌∙◌, arith, refl, append_assoc, append-nil}
use Rattle.std.proofs.Math.Seq.{take-add, take-append_seam, drop-append_seam}
use Rattle.std.proofs.lemmas.List.{drop-drop, length-map, map-append}
use Rattle.nd_model.specs.Arrays.Tuple.{count_up}
use Rattle.nd_view.proofs.Tuples.{count_up_more, length-count_up}
use Rattle.nd_ufunc.specs.Loops.Sides.{number_on, numbers_on}
use Rattle.nd_ufunc.specs.declared.loops.kernel.Side.{Side}
use Rattle.nd_reduce.specs.Folds.States.{has_any}

pub length-numbers : (s : Side) (n : ℕ) → length (numbers_on s n) ≡ n
length-numbers s n = length-map (count_up 0 n) (number_on s) ∙ length-count_up 0 n

-- what is given for one place more
pub next_of : (f : ℕ → ℤ) (k : ℕ) (zs : List ℤ) → zs ++ map f (count_up 0 (k + 1)) ≡ (zs ++ map f (count_up 0 k)) ++ f k ∷ []
next_of f k zs =
    let here : 0 + k ≡ k = omega arith in
    ap (λ l. zs ++ map f l) (count_up_more 0 k) ∙ ap (λ l. zs ++ l) (map-append f (count_up 0 k) ((0 + k) ∷ []))
    ∙ ap (λ j. zs ++ (map f (count_up 0 k) ++ f j ∷ [])) here ∙ sym (append_assoc zs (map f (count_up 0 k)) (f k ∷ []))

pub next_on : (s : Side) (k : ℕ) (zs : List ℤ) → zs ++ numbers_on s (k + 1) ≡ (zs ++ numbers_on s k) ++ number_on s k ∷ []
next_on s = next_of (number_on s)

-- and for none
pub none_of : (f : ℕ → ℤ) (k : ℕ) (zs : List ℤ) → k ≡ 0 → zs ≡ zs ++ map f (count_up 0 k)
none_of f k zs none = sym (ap (λ n. zs ++ map f (count_up 0 n)) none ∙ append-nil zs)

-- and for some
pub has_numbers : (f : ℕ → ℤ) (k : ℕ) → 0 < k → has_any (map f (count_up 0 k)) ≡ true
has_numbers f zero some = absurd (omega arith)
has_numbers f (suc k) some = refl

-- those that come next are taken
module _ (zs now front rest : List ℤ) (done n : ℕ) (left : now ≡ drop done zs) (split : now ≡ front ++ rest) (long : length front ≡ n) where
  joined : drop done zs ≡ front ++ rest
  joined = sym left ∙ split

  pub taken_more : take done zs ++ front ≡ take (done + n) zs
  taken_more = sym (take-add done n zs ∙ ap (λ l. take done zs ++ take n l) joined ∙ ap (λ m. take done zs ++ take m (front ++ rest)) (sym long) ∙ ap (λ l. take done zs ++ l) (take-append_seam front rest))

  pub left_more : rest ≡ drop (done + n) zs
  left_more = sym (drop-append_seam front rest) ∙ ap (λ m. drop m (front ++ rest)) long ∙ ap (drop n) (sym joined) ∙ drop-drop n done zs

-- so many numbers, or none
pub some_are : (zs : List ℤ) (n : ℕ) → length zs ≡ n → 0 < n → has_any zs ≡ true
some_are [] n long some = absurd (omega arith)
some_are (z ∷ zs) n long some = refl

pub none_are : (zs : List ℤ) (n : ℕ) → length zs ≡ n → n ≡ 0 → zs ≡ []
none_are [] n long none = refl
none_are (z ∷ zs) n long none = absurd (omega arith)
