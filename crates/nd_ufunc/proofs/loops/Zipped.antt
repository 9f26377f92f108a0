-- What a function gives of two lists of numbers, part by part.
use Rattle.std.proofs.Common.{◌≡◌, ℕ, zero, suc, ◌+◌, ◌*◌, ℤ, List, [], ◌∷◌, ◌++◌, map, length, replicate, refl, sym, ap, ◌∙◌, arith, append_assoc, length-append}
use Rattle.std.specs.List.{flat_map}
use Rattle.nd_model.specs.Arrays.Element.{Element, size_of, bytes_of}
use Rattle.nd_model.specs.Arrays.Tuple.{count_up}
use Rattle.nd_model.proofs.Values.{length-bytes_of}
use Rattle.nd_ufunc.specs.Loops.Results.{result_bytes}

module _ (e : Element) (f : ℤ → ℤ → ℤ) where
  -- of the numbers that two functions give for the same items
  pub by_items : {A : Type 0} (a b : A → ℤ) (xs : List A) → flat_map (λ x. bytes_of e (f (a x) (b x))) xs ≡ result_bytes e f (map a xs) (map b xs)
  by_items a b [] = refl
  by_items a b (x ∷ xs) = ap (λ l. bytes_of e (f (a x) (b x)) ++ l) (by_items a b xs)

  -- and then of the numbers behind them
  pub result-append : (xs ys us vs : List ℤ) → length xs ≡ length ys → result_bytes e f (xs ++ us) (ys ++ vs) ≡ result_bytes e f xs ys ++ result_bytes e f us vs
  result-append [] [] us vs same = refl
  result-append [] (y ∷ ys) us vs same = absurd (omega arith)
  result-append (x ∷ xs) [] us vs same = absurd (omega arith)
  result-append (x ∷ xs) (y ∷ ys) us vs same =
      ap (λ l. bytes_of e (f x y) ++ l) (result-append xs ys us vs (omega arith)) ∙ sym (append_assoc (bytes_of e (f x y)) (result_bytes e f xs ys) (result_bytes e f us vs))

  pub length-result : (xs ys : List ℤ) → length xs ≡ length ys → length (result_bytes e f xs ys) ≡ length xs * size_of e.kind
  length-result [] [] same = omega arith
  length-result [] (y ∷ ys) same = absurd (omega arith)
  length-result (x ∷ xs) [] same = absurd (omega arith)
  length-result (x ∷ xs) (y ∷ ys) same = omega (arith, length-append (bytes_of e (f x y)) (result_bytes e f xs ys), length-bytes_of e (f x y), length-result xs ys (omega arith))

-- one number so many times
pub repeated : (z : ℤ) (k n : ℕ) → map (λ j. z) (count_up k n) ≡ replicate n z
repeated z k zero = refl
repeated z k (suc n) = ap (λ l. z ∷ l) (repeated z (k + 1) n)
