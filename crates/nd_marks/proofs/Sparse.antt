-- Ranges in place of bits: grids with the places of a walk behind them, and bytes that are kept at these.
use Rattle.std.proofs.Common.{◌≡◌, ℕ, List, [], ◌∷◌, ◌++◌, append_assoc, Some, None, cond, map, refl, sym, ap, ◌∙◌}
use Rattle.std.proofs.lemmas.List.{append-nil}
use Rattle.nd_model.specs.Arrays.Tuple.{count_up}
use Rattle.nd_model.specs.Cells.Session.{is_in}
use Rattle.nd_marks.specs.Kept.{grids_places, kept_at, lines_left, places_in}
use Rattle.nd_marks.specs.Marks.{Grid, Places, holds}
use Rattle.nd_marks.proofs.Walks.{in_places, kept_from}

grids_places-append : (xs ys : List Grid) → grids_places (xs ++ ys) ≡ grids_places xs ++ grids_places ys
grids_places-append [] ys = refl
grids_places-append (x ∷ xs) ys = ap (λ zs. lines_left x 0 ++ zs) (grids_places-append xs ys) ∙ sym (append_assoc (lines_left x 0) (grids_places xs) (grids_places ys))

-- one range more behind grids
pub range_more : (ss new : List Grid) (s : Grid) (from w : ℕ) (left rest all : List ℕ) → new ≡ ss ++ (s ∷ []) → lines_left s 0 ≡ count_up from w → left ≡ count_up from w ++ rest
    → grids_places ss ++ left ≡ all → grids_places new ++ rest ≡ all
range_more ss new s from w left rest all is row split before =
    ap (λ xs. grids_places xs ++ rest) is
    ∙ ap (λ xs. xs ++ rest) (grids_places-append ss (s ∷ []) ∙ ap (λ ys. grids_places ss ++ ys) (append-nil (lines_left s 0) ∙ row))
    ∙ append_assoc (grids_places ss) (count_up from w) rest
    ∙ ap (λ xs. grids_places ss ++ xs) (sym split)
    ∙ before

-- bytes that are kept by another set of the same places
pub kept_alike : (f : ℕ → ℕ) (m n : Places) (bs : List ℕ) (p : ℕ) → places_in n ≡ places_in m → bs ≡ map f (places_in n) → kept_at (record { marks = n; bytes = bs }) p ≡ cond (holds m p) (Some (f p)) None
kept_alike f m n bs p same is = kept_from f n n bs p refl is ∙ ap (λ t. cond t (Some (f p)) None) (sym (in_places n p) ∙ ap (is_in p) same ∙ in_places m p)
