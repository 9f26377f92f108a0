-- The best numbers of two lists, one behind the other.
use Rattle.std.proofs.Common.{◌≡◌, Bool, true, false, List, [], ◌∷◌, ◌++◌, refl, sym, ap, ◌∙◌, inl, inr, append_assoc, append-nil}
use Rattle.std.specs.Prelude.{ℤ, ◌||◌}
use Rattle.std.specs.List.{fold, list_any}
use Rattle.std.proofs.lemmas.Bool.{cases_Bool}
use Rattle.std.proofs.lemmas.List.Sums.{fold-append, fold_push}
use Rattle.nd_model.specs.Making.Reductions.{best, best_place}
use Rattle.nd_reduce.specs.Folds.States.{has_any}
use Rattle.nd_reduce.proofs.folds.Folded.{pick, best_kept, stays_first, none_best, best_behind, place_kept}

pub has_behind : (zs xs : List ℤ) → has_any xs ≡ true → has_any (zs ++ xs) ≡ true
has_behind [] xs some = some
has_behind (z ∷ zs) xs some = refl

first_of_two : (p : Bool) → (p || false) ≡ true → p ≡ true
first_of_two true e = refl
first_of_two false e = e

neither : (p q : Bool) → (p || q) ≡ false → (p ≡ false) × (q ≡ false)
neither true q e = absurd (cc)
neither false q e = (refl, e)

module _ (better : ℤ → ℤ → Bool) (between : (a b c : ℤ) → better a c ≡ true → better b c ≡ false → better a b ≡ true) (apart : (a b : ℤ) → better a b ≡ true → better b a ≡ false) where
  later : (x y w : ℤ) (r : Bool) → better w y ≡ true → (better y x || (better w x || r)) ≡ true → (better w x || r) ≡ true
  later x y w r is some = elim (cases_Bool (better w x)) [
    | inl e ↦ rw e refl
    | inr e ↦ elim (cases_Bool (better y x)) [
      | inl f ↦ let g : better w y ≡ false = apart y w (between y w x f e) in absurd (cc)
      | inr f ↦ rw f at some
    ]
  ]

  earlier : (x y w : ℤ) (r : Bool) → better w y ≡ false → (better y x || (better w x || r)) ≡ true → (better y x || r) ≡ true
  earlier x y w r other some = elim (cases_Bool (better y x)) [
    | inl e ↦ rw e refl
    | inr e ↦ elim (cases_Bool (better w x)) [
      | inl f ↦ let g : better w y ≡ true = between w y x f e in absurd (cc)
      | inr f ↦
          let one : (better w x || r) ≡ true = rw e at some in let two : r ≡ true = rw f at one in rw e two
    ]
  ]

  -- the best number is better than what any of the numbers is better than
  best_beats : (x y : ℤ) (ys : List ℤ) → (better y x || list_any (λ w. better w x) ys) ≡ true → better (fold (pick better) y ys) x ≡ true
  best_beats x y [] some = first_of_two (better y x) some
  best_beats x y (w ∷ ws) some = elim (cases_Bool (better w y)) [
    | inl is ↦ rw is (best_beats x w ws (later x y w (list_any (λ v. better v x) ws) is some))
    | inr other ↦ rw other (best_beats x y ws (earlier x y w (list_any (λ v. better v x) ws) other some))
  ]

  fold_joined : (a x : ℤ) (xs : List ℤ) → fold (pick better) a (x ∷ xs) ≡ pick better a (fold (pick better) x xs)
  fold_joined a x xs = elim (cases_Bool (list_any (λ w. better w a) (x ∷ xs))) [
    | inl some ↦
        let e : better (fold (pick better) x xs) a ≡ true = best_beats a x xs some in
        let picked : pick better a (fold (pick better) x xs) ≡ fold (pick better) x xs = rw e refl in
        best_behind better between a (x ∷ xs) some ∙ sym picked
    | inr none ↦
        let two = neither (better x a) (list_any (λ w. better w a) xs) none in
        let e : better (fold (pick better) x xs) a ≡ false = none_best better a x xs two.0 two.1 in
        let picked : pick better a (fold (pick better) x xs) ≡ a = rw e refl in
        stays_first better a (x ∷ xs) none ∙ sym picked
  ]

  pub best_joined : (zs xs : List ℤ) → has_any xs ≡ true → best better (zs ++ best better xs ∷ []) ≡ best better (zs ++ xs)
  best_joined [] xs some = refl
  best_joined (z ∷ zs) [] some = absurd (cc)
  best_joined (z ∷ zs) (x ∷ xs) some =
      fold_push (pick better) z zs (fold (pick better) x xs)
      ∙ sym (fold-append (pick better) z zs (x ∷ xs) ∙ fold_joined (fold (pick better) z zs) x xs)

  -- where the best one is no better than a number, none is
  none_better : (b : ℤ) (xs : List ℤ) → better (best better xs) b ≡ false → list_any (λ w. better w b) xs ≡ false
  none_better b [] worse = refl
  none_better b (x ∷ xs) worse = elim (cases_Bool (list_any (λ w. better w b) (x ∷ xs))) [
    | inl some ↦ let e : better (fold (pick better) x xs) b ≡ true = best_beats b x xs some in absurd (cc)
    | inr none ↦ none
  ]

  place_stays : (xs zs : List ℤ) → has_any zs ≡ true → list_any (λ w. better w (best better zs)) xs ≡ false → best_place better (zs ++ xs) ≡ best_place better zs
  place_stays [] zs some none = ap (best_place better) (append-nil zs)
  place_stays (x ∷ xs) zs some none =
      let two = neither (better x (best better zs)) (list_any (λ w. better w (best better zs)) xs) none in
      let same : best better (zs ++ x ∷ []) ≡ best better zs = best_kept better zs x some two.0 in
      ap (best_place better) (sym (append_assoc zs (x ∷ []) xs))
      ∙ place_stays xs (zs ++ x ∷ []) (has_behind zs (x ∷ []) refl) (ap (λ b. list_any (λ w. better w b) xs) same ∙ two.1)
      ∙ place_kept better between zs x some two.0

  best_stays : (zs xs : List ℤ) → has_any zs ≡ true → list_any (λ w. better w (best better zs)) xs ≡ false → best better (zs ++ xs) ≡ best better zs
  best_stays [] xs some none = absurd (cc)
  best_stays (z ∷ zs) xs some none = fold-append (pick better) z zs xs ∙ stays_first better (fold (pick better) z zs) xs none

  -- where the best of the numbers behind is no better, the first ones have the best
  pub best_before : (zs xs : List ℤ) → has_any zs ≡ true → better (best better xs) (best better zs) ≡ false → best better (zs ++ xs) ≡ best better zs
  best_before zs xs some worse = best_stays zs xs some (none_better (best better zs) xs worse)

  pub place_before : (zs xs : List ℤ) → has_any zs ≡ true → better (best better xs) (best better zs) ≡ false → best_place better (zs ++ xs) ≡ best_place better zs
  place_before zs xs some worse = place_stays xs zs some (none_better (best better zs) xs worse)

  -- some number is better than this one where the best one is
  pub any_better : (x : ℤ) (xs : List ℤ) → has_any xs ≡ true → list_any (λ w. better w x) xs ≡ better (best better xs) x
  any_better x [] some = absurd (cc)
  any_better x (y ∷ ys) some = elim (cases_Bool (list_any (λ w. better w x) (y ∷ ys))) [
    | inl is ↦ is ∙ sym (best_beats x y ys is)
    | inr none ↦
        let two = neither (better y x) (list_any (λ w. better w x) ys) none in none ∙ sym (none_best better x y ys two.0 two.1)
  ]
