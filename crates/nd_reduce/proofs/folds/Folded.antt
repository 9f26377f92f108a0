-- Folds of one number more.
use Rattle.std.proofs.Common.{◌≡◌, ◌≤◌, suc, Bool, true, false, List, [], ◌∷◌, ◌++◌, length, refl, sym, ap, ◌∙◌, ◌⊎◌, inl, inr, arith}
use Rattle.std.specs.Prelude.{ℤ, if◌then◌else◌, ◌||◌}
use Rattle.std.specs.List.{All, fold, list_any}
use Rattle.std.proofs.lemmas.Bool.{cases_Bool}
use Rattle.std.proofs.lemmas.List.Sums.{fold_push}
use Rattle.std.proofs.lemmas.List.Folds.{list_any-append}
use Rattle.std.proofs.lemmas.List.Elements.{All-head, All-tail}
use Rattle.nd_model.specs.Arrays.Element.{Kind, IsValue}
use Rattle.nd_model.specs.Making.Reductions.{best, best_place}
use Rattle.nd_reduce.specs.Folds.States.{has_any}

module _ (better : ℤ → ℤ → Bool) where
  abbrev pub pick : ℤ → ℤ → ℤ
  pick a b = if better b a then b else a

  pub best_kept : (zs : List ℤ) (z : ℤ) → has_any zs ≡ true → better z (best better zs) ≡ false → best better (zs ++ z ∷ []) ≡ best better zs
  best_kept [] z some worse = absurd (cc)
  best_kept (x ∷ xs) z some worse = fold_push pick x xs z ∙ rw worse refl

  -- the best of numbers of a kind is one of them
  pub best_value : (k : Kind) (zs : List ℤ) → has_any zs ≡ true → All (λ z. IsValue k z) zs → IsValue k (best better zs)
  best_value k [] some are = absurd (cc)
  best_value k (x ∷ xs) some are = from x xs (All-head (λ z. IsValue k z) x xs are) (All-tail (λ z. IsValue k z) x xs are)
    where
      picked : (x y : ℤ) → IsValue k x → IsValue k y → IsValue k (pick x y)
      picked x y is other = elim (better y x) as (λ b. IsValue k (if b then y else x)) [ true ↦ other | false ↦ is ]

      from : (x : ℤ) (xs : List ℤ) → IsValue k x → All (λ z. IsValue k z) xs → IsValue k (fold pick x xs)
      from x [] is are = is
      from x (y ∷ ys) is are = from (pick x y) ys (picked x y is (All-head (λ z. IsValue k z) y ys are)) (All-tail (λ z. IsValue k z) y ys are)

  -- one number more
  pub best_more : (zs : List ℤ) (z : ℤ) → has_any zs ≡ true → best better (zs ++ z ∷ []) ≡ pick (best better zs) z
  best_more [] z some = absurd (cc)
  best_more (x ∷ xs) z some = fold_push pick x xs z

  pub best_taken : (zs : List ℤ) (z : ℤ) → (has_any zs ≡ false) ⊎ (better z (best better zs) ≡ true) → best better (zs ++ z ∷ []) ≡ z
  best_taken [] z is = refl
  best_taken (x ∷ xs) z (inl none) = absurd (cc)
  best_taken (x ∷ xs) z (inr is) = fold_push pick x xs z ∙ rw is refl

  -- none is better than this one
  pub stays_first : (x : ℤ) (xs : List ℤ) → list_any (λ y. better y x) xs ≡ false → fold pick x xs ≡ x
  stays_first x [] none = refl
  stays_first x (y ∷ ys) none = elim (cases_Bool (better y x)) [
    | inl is ↦ let f = rw is at none in absurd (cc)
    | inr other ↦ let rest : list_any (λ w. better w x) ys ≡ false = rw other at none in rw other (stays_first x ys rest)
  ]

  pub none_best : (x y : ℤ) (ys : List ℤ) → better y x ≡ false → list_any (λ w. better w x) ys ≡ false → better (fold pick y ys) x ≡ false
  none_best x y [] first none = first
  none_best x y (w ∷ ws) first none = elim (cases_Bool (better w x)) [
    | inl is ↦ let f = rw is at none in absurd (cc)
    | inr other ↦
        let rest : list_any (λ v. better v x) ws ≡ false = rw other at none in
        elim (cases_Bool (better w y)) [ inl is ↦ rw is (none_best x w ws other rest) | inr not_it ↦ rw not_it (none_best x y ws first rest) ]
  ]

  pub place_within : (zs : List ℤ) → best_place better zs ≤ length zs
  place_within [] = omega arith
  place_within (x ∷ xs) =
      elim (list_any (λ y. better y x) xs) as (λ b. (if b then suc (best_place better xs) else 0) ≤ length (x ∷ xs)) [ true ↦ omega (arith, place_within xs) | false ↦ omega arith ]

  module _ (between : (a b c : ℤ) → better a c ≡ true → better b c ≡ false → better a b ≡ true) where
    any_than_worse : (x y : ℤ) (ys : List ℤ) → better y x ≡ false → list_any (λ w. better w x) ys ≡ true → list_any (λ w. better w y) ys ≡ true
    any_than_worse x y [] worse some = absurd (cc)
    any_than_worse x y (w ∷ ws) worse some = elim (cases_Bool (better w x)) [
      | inl is ↦ let e : better w y ≡ true = between w y x is worse in rw e refl
      | inr other ↦
          let rest : list_any (λ v. better v x) ws ≡ true = rw other at some in
          let more : list_any (λ v. better v y) ws ≡ true = any_than_worse x y ws worse rest in
          elim (better w y) as (λ b. (b || list_any (λ v. better v y) ws) ≡ true) [ true ↦ refl | false ↦ more ]
    ]

    -- one is better than the first
    pub best_behind : (x : ℤ) (xs : List ℤ) → list_any (λ y. better y x) xs ≡ true → fold pick x xs ≡ best better xs
    best_behind x [] some = absurd (cc)
    best_behind x (y ∷ ys) some = elim (cases_Bool (better y x)) [
      | inl is ↦ rw is refl
      | inr other ↦
          let rest : list_any (λ w. better w x) ys ≡ true = rw other at some in
          rw other (best_behind x ys rest ∙ sym (best_behind y ys (any_than_worse x y ys other rest)))
    ]

    any_has : (x : ℤ) (xs : List ℤ) → list_any (λ y. better y x) xs ≡ true → has_any xs ≡ true
    any_has x [] some = absurd (cc)
    any_has x (y ∷ ys) some = refl

    any_last : (x z : ℤ) (xs : List ℤ) (b : Bool) → better z x ≡ b → list_any (λ y. better y x) (xs ++ z ∷ []) ≡ (list_any (λ y. better y x) xs || (b || false))
    any_last x z xs b e = list_any-append (λ y. better y x) xs (z ∷ []) ∙ ap (λ c. list_any (λ y. better y x) xs || (c || false)) e

    pub place_kept : (zs : List ℤ) (z : ℤ) → has_any zs ≡ true → better z (best better zs) ≡ false → best_place better (zs ++ z ∷ []) ≡ best_place better zs
    place_kept [] z some worse = absurd (cc)
    place_kept (x ∷ xs) z some worse = elim (cases_Bool (list_any (λ y. better y x) xs)) [
      | inl is ↦
          let all : list_any (λ y. better y x) (xs ++ z ∷ []) ≡ true = list_any-append (λ y. better y x) xs (z ∷ []) ∙ rw is refl in
          let own : better z (best better xs) ≡ false = ap (better z) (sym (best_behind x xs is)) ∙ worse in
          rw (all, is) (ap suc (place_kept xs z (any_has x xs is) own))
      | inr none ↦
          let own : better z x ≡ false = ap (better z) (sym (stays_first x xs none)) ∙ worse in
          let all : list_any (λ y. better y x) (xs ++ z ∷ []) ≡ false = any_last x z xs false own ∙ rw none refl in
          rw (all, none) refl
    ]

    -- none is better than this one, and the other one is: then it is better than all
    pub beats : (w x : ℤ) (xs : List ℤ) → list_any (λ y. better y x) xs ≡ false → better w x ≡ true → (has_any xs ≡ false) ⊎ (better w (best better xs) ≡ true)
    beats w x [] none own = inl refl
    beats w x (y ∷ ys) none own = elim (cases_Bool (better y x)) [
      | inl is ↦ let f = rw is at none in absurd (cc)
      | inr other ↦ let rest : list_any (λ v. better v x) ys ≡ false = rw other at none in inr (between w (fold pick y ys) x own (none_best x y ys other rest))
    ]

    pub place_taken : (zs : List ℤ) (z : ℤ) → (has_any zs ≡ false) ⊎ (better z (best better zs) ≡ true) → best_place better (zs ++ z ∷ []) ≡ length zs
    place_taken [] z is = refl
    place_taken (x ∷ xs) z (inl none) = absurd (cc)
    place_taken (x ∷ xs) z (inr is) = elim (cases_Bool (list_any (λ y. better y x) xs)) [
      | inl some ↦
          let all : list_any (λ y. better y x) (xs ++ z ∷ []) ≡ true = list_any-append (λ y. better y x) xs (z ∷ []) ∙ rw some refl in
          let own : better z (best better xs) ≡ true = ap (better z) (sym (best_behind x xs some)) ∙ is in
          rw all (ap suc (place_taken xs z (inr own)))
      | inr none ↦
          let own : better z x ≡ true = ap (better z) (sym (stays_first x xs none)) ∙ is in
          let all : list_any (λ y. better y x) (xs ++ z ∷ []) ≡ true = any_last x z xs true own ∙ rw none refl in
          rw all (ap suc (place_taken xs z (beats z x xs none own)))
    ]
