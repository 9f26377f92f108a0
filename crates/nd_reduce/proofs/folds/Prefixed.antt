-- Folds of the first numbers, part by part.
use Rattle.std.proofs.Common.{◌≡◌, ℕ, suc, ℤ, List, [], ◌∷◌, ◌++◌, length, refl, sym, ap, ◌∙◌, append_assoc, append-nil}
use Rattle.std.proofs.lemmas.Grind.{flat_map-append}
use Rattle.nd_model.specs.Grammar.Calls.{Reduction}
use Rattle.nd_model.specs.Arrays.Element.{Kind, bytes_of, wrap}
use Rattle.nd_model.specs.Making.Elementwise.{little}
use Rattle.nd_model.specs.Making.Reductions.{folded}
use Rattle.nd_reduce.specs.Folds.Lanes.{number_bytes, prefix_folds}

pub folds-append : (r : Reduction) (taken xs ys : List ℤ) → prefix_folds r taken (xs ++ ys) ≡ prefix_folds r taken xs ++ prefix_folds r (taken ++ xs) ys
folds-append r taken [] ys = ap (λ l. prefix_folds r l ys) (sym (append-nil taken))
folds-append r taken (x ∷ xs) ys =
    ap (λ l. folded r (taken ++ x ∷ []) ∷ l) (folds-append r (taken ++ x ∷ []) xs ys
    ∙ ap (λ l. prefix_folds r (taken ++ x ∷ []) xs ++ prefix_folds r l ys) (append_assoc taken (x ∷ []) xs))

pub length-folds : (r : Reduction) (taken zs : List ℤ) → length (prefix_folds r taken zs) ≡ length zs
length-folds r taken [] = refl
length-folds r taken (z ∷ zs) = ap suc (length-folds r (taken ++ z ∷ []) zs)

pub bytes-append : (k : Kind) (xs ys : List ℤ) → number_bytes k (xs ++ ys) ≡ number_bytes k xs ++ number_bytes k ys
bytes-append k xs ys = flat_map-append (λ z. bytes_of (little k) (wrap k z)) xs ys

-- those of some numbers, and then of the numbers behind them
pub more_folds : (r : Reduction) (k : Kind) (taken xs ys : List ℤ) → number_bytes k (prefix_folds r taken (xs ++ ys)) ≡ number_bytes k (prefix_folds r taken xs) ++ number_bytes k (prefix_folds r (taken ++ xs) ys)
more_folds r k taken xs ys = ap (number_bytes k) (folds-append r taken xs ys) ∙ bytes-append k (prefix_folds r taken xs) (prefix_folds r (taken ++ xs) ys)

-- and of one number more
pub one_fold : (r : Reduction) (k : Kind) (taken xs : List ℤ) (z : ℤ)
    → number_bytes k (prefix_folds r taken xs) ++ bytes_of (little k) (wrap k (folded r ((taken ++ xs) ++ z ∷ []))) ≡ number_bytes k (prefix_folds r taken (xs ++ z ∷ []))
one_fold r k taken xs z =
    let last : List ℕ = bytes_of (little k) (wrap k (folded r ((taken ++ xs) ++ z ∷ []))) in
    ap (λ l. number_bytes k (prefix_folds r taken xs) ++ l) (sym (append-nil last)) ∙ sym (more_folds r k taken xs (z ∷ []))
