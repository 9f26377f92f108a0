-- Lines of a script.
use Rattle.std.proofs.Common.{◌≡◌, ℕ, ◌+◌, ◌<◌, Bool, true, false, cond, List, [], ◌∷◌, ◌++◌, length, get_or, take, drop, Some, None, refl, sym, ap, ◌∙◌, arith, add-one, drop-cons}
use Rattle.std.specs.Prelude.{◌==◌, ◌≢◌, All, position}
use Rattle.std.specs.List.{slice_split, position_or_len}
use Rattle.std.proofs.lemmas.Bool.{ne_eqb, eqb-true, eqb-false, ltb-false}
use Rattle.std.proofs.lemmas.List.{get_or-take, length-take, take-append-drop}
use Rattle.std.proofs.lemmas.List.Elements.{All-append}
use Rattle.std.proofs.lemmas.List.Quantifiers.{position-Some}
use Rattle.std.proofs.lemmas.List.Sums.{fails_before_first}
use Rattle.nd_model.specs.Book.ScriptRuns.{IsInLine}
use Rattle.std.proofs.lemmas.List.Splits.{length-slice_split, slice_split_none}

is_cons : (ls : List (List ℕ)) → 0 < length ls → (part : List ℕ) × (parts : List (List ℕ)) × (ls ≡ part ∷ parts)
is_cons [] h = absurd (omega arith)
is_cons (l ∷ ls) h = (l, ls, refl)

-- a list has a first part
pub parts_are_some : (p : ℕ → Bool) (xs : List ℕ) → (part : List ℕ) × (parts : List (List ℕ)) × (slice_split p xs ≡ part ∷ parts)
parts_are_some p xs = is_cons (slice_split p xs) (omega (arith, length-slice_split p xs))

-- bytes without a newline are one line
pub one_line : (l : List ℕ) → All (λ c. c ≢ 10) l → slice_split (λ c. c == 10) l ≡ l ∷ []
one_line l none = slice_split_none (λ c. c == 10) l (λ k d h. ne_eqb _ 10 (none k d h))

-- up to the first newline
in_line_before : (xs : List ℕ) (i : ℕ) → position (λ c. c == 10) xs ≡ Some i → IsInLine (take i xs)
in_line_before xs i e = λ k d h.
    let below : k < i = omega (arith, length-take i xs) in
    let here = position-Some (λ c. c == 10) xs i d e in
    rw (get_or-take i xs k d below) (eqb-false (get_or xs k d) 10 (here.2 k below))

pub newline_at : (xs : List ℕ) (i : ℕ) → position (λ c. c == 10) xs ≡ Some i → (i < length xs) × IsInLine (take i xs) × (xs ≡ take i xs ++ 10 ∷ drop (i + 1) xs)
newline_at xs i e =
    let at = position-Some (λ c. c == 10) xs i 0 e in
    let found : get_or xs i 0 ≡ 10 = eqb-true (get_or xs i 0) 10 at.1 in
    let cut : drop i xs ≡ 10 ∷ drop (i + 1) xs = rw (drop-cons xs i 0 at.0, found, add-one) refl in
    (at.0, in_line_before xs i e, sym (take-append-drop i xs) ∙ ap (λ ys. take i xs ++ ys) cut)

none_found : (b : Bool) (i : ℕ) → cond b (Some i) None ≡ None → b ≡ false
none_found true i e = cc
none_found false i e = refl

pub no_newline : (xs : List ℕ) → position (λ c. c == 10) xs ≡ None → IsInLine xs
no_newline xs e = λ k d h.
    let past = ltb-false (position_or_len (λ c. c == 10) xs) (length xs) (none_found _ _ e) in
    eqb-false (get_or xs k d) 10 (fails_before_first (λ c. c == 10) xs k d (omega arith))

pub in_line_append : (xs ys : List ℕ) → IsInLine xs → IsInLine ys → IsInLine (xs ++ ys)
in_line_append xs ys first second = All-append (λ c. c ≢ 10) xs ys first second
