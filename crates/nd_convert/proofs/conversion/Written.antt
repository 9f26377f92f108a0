-- Elements that are written one after another.
use Rattle.std.proofs.Common.{◌≡◌, ℕ, ◌+◌, ◌*◌, ◌<◌, ◌≤◌, List, [], ◌∷◌, ◌++◌, length, get_or, take, drop, refl, sym, ap, ◌∙◌, arith, append-nil, length-take, length-append, drop_of_length-le}
use Rattle.std.proofs.Math.Seq.{take-length}
use Rattle.std.specs.List.{flat_map}
use Rattle.std.proofs.lemmas.Grind.{flat_map-append}
use Rattle.std.proofs.lemmas.List.{take_more}
use Rattle.nd_model.specs.Arrays.Element.{with_bytes}
use Rattle.nd_model.specs.Arrays.Tuple.{count_up}
use Rattle.nd_view.proofs.Tuples.{count_up_more}

-- what stands before the place stays, and the bytes that are written stand there
take-with_bytes : (xs : List ℕ) (p : ℕ) (ys : List ℕ) → p ≤ length xs → take (p + length ys) (with_bytes xs p ys) ≡ take p xs ++ ys
take-with_bytes xs p ys le =
    let long : length (take p xs ++ ys) ≡ p + length ys = omega (arith, length-append (take p xs) ys, length-take p xs) in
    ap (λ k. take k ((take p xs ++ ys) ++ drop (p + length ys) xs)) (sym long) ∙ take_front (take p xs ++ ys) (drop (p + length ys) xs)
  where
    take_front : (us bs : List ℕ) → take (length us) (us ++ bs) ≡ us
    take_front [] bs = refl
    take_front (u ∷ us) bs = ap (λ l. u ∷ l) (take_front us bs)

-- one item more
pub flat_map_more : {A B : Type 0} (f : A → List B) (xs : List A) (k : ℕ) (d : A) → k < length xs → flat_map f (take (k + 1) xs) ≡ flat_map f (take k xs) ++ f (get_or xs k d)
flat_map_more f xs k d lt =
    ap (flat_map f) (take_more xs k d lt) ∙ flat_map-append f (take k xs) (get_or xs k d ∷ []) ∙ ap (λ l. flat_map f (take k xs) ++ l) (append-nil (f (get_or xs k d)))

-- the bytes of an element are written
pub place_more : (xs ys done : List ℕ) (m p : ℕ) → p ≤ length xs → m ≡ p + length ys → take p xs ≡ done → take m (with_bytes xs p ys) ≡ done ++ ys
place_more xs ys done m p le end is = ap (λ j. take j (with_bytes xs p ys)) end ∙ take-with_bytes xs p ys le ∙ ap (λ l. l ++ ys) is

-- one element more
pub one_more : (xs ys : List ℕ) (k size m p : ℕ) (f : ℕ → List ℕ) → p ≡ k * size → m ≡ (k + 1) * size → length ys ≡ size → p ≤ length xs → ys ≡ f k
    → take p xs ≡ flat_map f (count_up 0 k) → take m (with_bytes xs p ys) ≡ flat_map f (count_up 0 (k + 1))
one_more xs ys k size m p f at end long le same done =
    let here : m ≡ p + length ys = omega arith in
    let none : 0 + k ≡ k = omega arith in
    ap (λ j. take j (with_bytes xs p ys)) here ∙ take-with_bytes xs p ys le
    ∙ (λ i. done i ++ same i) ∙ ap (λ l. flat_map f (count_up 0 k) ++ l) (sym (append-nil (f k)))
    ∙ sym (flat_map-append f (count_up 0 k) (k ∷ [])) ∙ ap (λ j. flat_map f (count_up 0 k ++ j ∷ [])) (sym none)
    ∙ ap (flat_map f) (sym (count_up_more 0 k))

-- what was written over all of a block
pub all_written : (old new : List ℕ) → length new ≡ length old → take (length old) (new ++ drop (length new) old) ≡ new
all_written old new same =
    let none : drop (length new) old ≡ [] = drop_of_length-le old {i = length new} (omega (arith, same)) in
    ap (λ l. take (length old) (new ++ l)) none ∙ ap (take (length old)) (append-nil new) ∙ ap (λ k. take k new) (sym same) ∙ take-length new
