-- The best numbers so far, with one number more, and with some more.
use Rattle.std.proofs.Common.{◌≡◌, ℕ, ◌+◌, ◌<◌, ◌^◌, ◌%◌, Bool, true, false, List, [], ◌∷◌, ◌++◌, length, refl, sym, ap, ◌∙◌, ◌⊎◌, inl, inr, arith, length-append}
use Rattle.std.specs.Prelude.{ℤ, not, ◌&&◌, nat_lt}
use Rattle.std.specs.Int.{w128}
use Rattle.std.specs.Int.RustNames.{FitsSigned}
use Rattle.std.proofs.lemmas.Bool.Decides.{nat_tests}
use Rattle.std.proofs.lemmas.List.{length_push}
use native.Mathlib.Nat.{mod-eq_of_lt}
use Rattle.nd_model.specs.Making.Reductions.{best, best_place}
use Rattle.nd_reduce.specs.Folds.States.{has_any, IsBest, IsPlaced}
use Rattle.nd_reduce.proofs.folds.Folded.{best_kept, best_taken, place_kept, place_taken, place_within}
use Rattle.nd_reduce.proofs.folds.Blockwise.{best_ahead, place_ahead}
use Rattle.nd_reduce.proofs.folds.Joined.{has_behind, best_joined, best_before, place_before}

has_more : (zs : List ℤ) (z : ℤ) → has_any (zs ++ z ∷ []) ≡ true
has_more zs z = has_behind zs (z ∷ []) refl

kept_both : (s t : Bool) → (s && not t) ≡ true → (s ≡ true) × (t ≡ false)
kept_both true true e = absurd (cc)
kept_both true false e = (refl, refl)
kept_both false t e = absurd (cc)

taken_one : (s t : Bool) → (s && not t) ≡ false → (s ≡ false) ⊎ (t ≡ true)
taken_one true true e = inr refl
taken_one true false e = absurd (cc)
taken_one false t e = inl refl

counted : (zs : List ℤ) → nat_lt 0 (length zs) ≡ has_any zs
counted [] = refl
counted (z ∷ zs) = let some : 0 < length (z ∷ zs) = omega arith in grind (arith, nat_tests)

module _ (better : ℤ → ℤ → Bool) (zs : List ℤ) (b z : ℤ) where
  either : (some : Bool) → some ≡ has_any zs → b ≡ best better zs → (some ≡ false) ⊎ (better z b ≡ true) → (has_any zs ≡ false) ⊎ (better z (best better zs) ≡ true)
  either some has is (inl none) = inl (sym has ∙ none)
  either some has is (inr e) = inr (ap (better z) (sym is) ∙ e)

  pub best_stays : (some : Bool) → IsBest better some b zs → (some && not (better z b)) ≡ true → IsBest better some b (zs ++ z ∷ [])
  best_stays some h e =
      let two = kept_both some (better z b) e in record {
        fits = h.fits;
        has = two.0 ∙ sym (has_more zs z);
        is = h.is ∙ sym (best_kept better zs z (sym h.has ∙ two.0) (ap (better z) (sym h.is) ∙ two.1));
      }

  pub best_changes : (some : Bool) → FitsSigned w128 z → IsBest better some b zs → (some && not (better z b)) ≡ false → IsBest better true z (zs ++ z ∷ [])
  best_changes some fits h e = record {
    fits = fits;
    has = sym (has_more zs z);
    is = sym (best_taken better zs z (either some h.has h.is (taken_one some (better z b) e)));
  }

  module _ (between : (x y w : ℤ) → better x w ≡ true → better y w ≡ false → better x y ≡ true) (count place : ℕ) where
    shorter : length (zs ++ z ∷ []) < 2 ^ 64 → length zs < 2 ^ 64
    shorter lt = omega (arith, length_push zs z)

    more : length (zs ++ z ∷ []) < 2 ^ 64 → count ≡ length zs → (count + 1) % 2 ^ 64 ≡ length (zs ++ z ∷ [])
    more lt is = let next : count + 1 ≡ length (zs ++ z ∷ []) = omega (arith, length_push zs z, is) in ap (λ n. n % 2 ^ 64) next ∙ mod-eq_of_lt lt

    some_is : count ≡ length zs → nat_lt 0 count ≡ has_any zs
    some_is is = ap (nat_lt 0) is ∙ counted zs

    pub place_stays : IsPlaced better count place b zs → (length zs < 2 ^ 64 → (nat_lt 0 count && not (better z b)) ≡ true) → IsPlaced better ((count + 1) % 2 ^ 64) place b (zs ++ z ∷ [])
    place_stays h e = λ lt.
        let p = h (shorter lt) in let two = kept_both (nat_lt 0 count) (better z b) (e (shorter lt)) in
        let some : has_any zs ≡ true = sym (some_is p.many) ∙ two.0 in
        let worse : better z (best better zs) ≡ false = ap (better z) (sym p.is) ∙ two.1 in record {
          fits = p.fits;
          many = more lt p.many;
          is = p.is ∙ sym (best_kept better zs z some worse);
          at = p.at ∙ sym (place_kept better between zs z some worse);
        }

    pub place_changes : FitsSigned w128 z → IsPlaced better count place b zs → (length zs < 2 ^ 64 → (nat_lt 0 count && not (better z b)) ≡ false) → IsPlaced better ((count + 1) % 2 ^ 64) count z (zs ++ z ∷ [])
    place_changes fits h e = λ lt.
        let p = h (shorter lt) in
        let one = either (nat_lt 0 count) (some_is p.many) p.is (taken_one (nat_lt 0 count) (better z b) (e (shorter lt))) in record {
          fits = fits;
          many = more lt p.many;
          is = sym (best_taken better zs z one);
          at = p.many ∙ sym (place_taken better between zs z one);
        }

-- more numbers, of which the best one is known
module _ (better : ℤ → ℤ → Bool) (between : (a b c : ℤ) → better a c ≡ true → better b c ≡ false → better a b ≡ true) (apart : (a b : ℤ) → better a b ≡ true → better b a ≡ false) (zs xs : List ℤ) (any : has_any xs ≡ true) where
  pub best_joins : (some : Bool) (b : ℤ) → IsBest better some b (zs ++ best better xs ∷ []) → IsBest better some b (zs ++ xs)
  best_joins some b h = record {
    fits = h.fits;
    has = h.has ∙ has_more zs (best better xs) ∙ sym (has_behind zs xs any);
    is = h.is ∙ best_joined better between apart zs xs any;
  }

  pub place_joins : (b : ℤ) (count place n : ℕ) → n ≡ length xs → IsPlaced better count place b zs
      → (length zs < 2 ^ 64 → (nat_lt 0 count && not (better (best better xs) b)) ≡ true) → IsPlaced better ((count + n) % 2 ^ 64) place b (zs ++ xs)
  place_joins b count place n long h e = λ lt.
      let short : length zs < 2 ^ 64 = omega (arith, length-append zs xs) in
      let p = h short in let two = kept_both (nat_lt 0 count) (better (best better xs) b) (e short) in
      let some : has_any zs ≡ true = sym (ap (nat_lt 0) p.many ∙ counted zs) ∙ two.0 in
      let worse : better (best better xs) (best better zs) ≡ false = ap (better (best better xs)) (sym p.is) ∙ two.1 in
      let all : count + n ≡ length (zs ++ xs) = omega (arith, length-append zs xs, p.many, long) in record {
        fits = p.fits;
        many = ap (λ m. m % 2 ^ 64) all ∙ mod-eq_of_lt lt;
        is = p.is ∙ sym (best_before better between apart zs xs some worse);
        at = p.at ∙ sym (place_before better between apart zs xs some worse);
      }

  -- the best of them is better than those before
  pub place_moves : (b : ℤ) (count place n at : ℕ) → n ≡ length xs → at ≡ best_place better xs → FitsSigned w128 (best better xs) → IsPlaced better count place b zs
      → (length zs < 2 ^ 64 → (nat_lt 0 count && not (better (best better xs) b)) ≡ false) → IsPlaced better ((count + n) % 2 ^ 64) ((count + at) % 2 ^ 64) (best better xs) (zs ++ xs)
  place_moves b count place n at long is fits h e = λ lt.
      let short : length zs < 2 ^ 64 = omega (arith, length-append zs xs) in
      let p = h short in
      let one = either better zs b (best better xs) (nat_lt 0 count) (ap (nat_lt 0) p.many ∙ counted zs) p.is (taken_one (nat_lt 0 count) (better (best better xs) b) (e short)) in
      let all : count + n ≡ length (zs ++ xs) = omega (arith, length-append zs xs, p.many, long) in
      let within : count + at < 2 ^ 64 = omega (arith, length-append zs xs, p.many, is, place_within better xs) in record {
        fits = fits;
        many = ap (λ m. m % 2 ^ 64) all ∙ mod-eq_of_lt lt;
        is = sym (best_ahead better between apart zs xs any one);
        at = mod-eq_of_lt within ∙ (λ i. p.many i + is i) ∙ sym (place_ahead better between apart zs xs any one);
      }
