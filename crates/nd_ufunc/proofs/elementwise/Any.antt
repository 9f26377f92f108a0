-- Whether an item of a list passes a test.
use Rattle.std.proofs.Common.{◌≡◌, ℕ, zero, suc, ◌+◌, ◌<◌, Bool, true, false, List, [], ◌∷◌, ◌++◌, map, length, take, replicate, get_or, refl, ap, ◌∙◌, arith}
use Rattle.std.specs.Prelude.{◌||◌, ◌&&◌}
use Rattle.std.specs.List.{list_any}
use Rattle.std.proofs.lemmas.List.{take_more}

pub any_of_map : {A B : Type 0} (p : B → Bool) (f : A → B) (xs : List A) → list_any p (map f xs) ≡ list_any (λ x. p (f x)) xs
any_of_map p f [] = refl
any_of_map p f (x ∷ xs) = ap (λ b. p (f x) || b) (any_of_map p f xs)

or_false : (a b : Bool) → a ≡ false → b ≡ false → (a || b) ≡ false
or_false a b e f = λ i. e i || f i

or_true : (a b : Bool) → b ≡ true → (a || b) ≡ true
or_true true b e = refl
or_true false b e = e

or_assoc : (a b c : Bool) → (a || (b || c)) ≡ ((a || b) || c)
or_assoc true b c = refl
or_assoc false b c = refl

module _ {A : Type 0} (p : A → Bool) where
  pub any-append : (xs ys : List A) → list_any p (xs ++ ys) ≡ (list_any p xs || list_any p ys)
  any-append [] ys = refl
  any-append (x ∷ xs) ys = ap (λ b. p x || b) (any-append xs ys) ∙ or_assoc (p x) (list_any p xs) (list_any p ys)

  pub any_at : (xs : List A) (k : ℕ) (d : A) → k < length xs → p (get_or xs k d) ≡ true → list_any p xs ≡ true
  any_at [] k d lt e = absurd (omega arith)
  any_at (x ∷ xs) zero d lt e = ap (λ b. b || list_any p xs) e
  any_at (x ∷ xs) (suc k) d lt e = or_true (p x) (list_any p xs) (any_at xs k d (omega arith) e)

  or_none : (b : Bool) → b ≡ false → (b || false) ≡ false
  or_none b e = ap (λ c. c || false) e

  pub none_more : (xs : List A) (k : ℕ) (d : A) → k < length xs → list_any p (take k xs) ≡ false → p (get_or xs k d) ≡ false → list_any p (take (k + 1) xs) ≡ false
  none_more xs k d lt before here =
      ap (list_any p) (take_more xs k d lt) ∙ any-append (take k xs) (get_or xs k d ∷ [])
      ∙ or_false (list_any p (take k xs)) (p (get_or xs k d) || false) before (or_none (p (get_or xs k d)) here)

  pub and_any : (b : Bool) (xs : List A) → list_any (λ x. b && p x) xs ≡ (b && list_any p xs)
  and_any true xs = refl
  and_any false [] = refl
  and_any false (x ∷ xs) = and_any false xs

  pub any_alike : (z : A) (n : ℕ) → 0 < n → list_any p (replicate n z) ≡ p z
  any_alike z zero some = absurd (omega arith)
  any_alike z (suc zero) some = or_nothing (p z)
    where
      or_nothing : (b : Bool) → (b || false) ≡ b
      or_nothing true = refl
      or_nothing false = refl
  any_alike z (suc (suc n)) some = ap (λ b. p z || b) (any_alike z (suc n) (omega arith)) ∙ twice (p z)
    where
      twice : (b : Bool) → (b || b) ≡ b
      twice true = refl
      twice false = refl
