-- Lists, one item after the other.
use Rattle.std.proofs.Common.{◌≡◌, List, [], ◌∷◌, ◌++◌, sym, ap, ◌∙◌, ◌+◌, ◌-◌, ◌<◌, ◌≤◌, ℕ, suc, length, get_or, take, take_all, drop, add-one, drop-cons, map, arith}
use Rattle.std.proofs.lemmas.List.{map-append}

-- the item of a loop's step
pub next_item : {A : Type 0} (xs : List A) (k : ℕ) (x : A) → k < length xs → x ≡ get_or xs k x → drop k xs ≡ x ∷ drop (k + 1) xs
next_item xs k x lt is = rw add-one (drop-cons xs k x lt ∙ ap (λ y. y ∷ drop (suc k) xs) (sym is))

pub pushed : {A B : Type 0} (f : A → B) (new old : List A) (x : A) → new ≡ old ++ x ∷ [] → map f new ≡ map f old ++ f x ∷ []
pushed f new old x is = rw is (map-append f old (x ∷ []))

-- a list by its first item
pub first_and_rest : {A : Type 0} (xs : List A) (x : A) → 1 ≤ length xs → x ≡ get_or xs 0 x → xs ≡ x ∷ take (length xs - 1) (drop 1 xs)
first_and_rest [] x some is = absurd (omega arith)
first_and_rest (y ∷ ys) x some is = (λ i. sym is i ∷ sym (take_all (length (y ∷ ys) - 1) ys (omega arith)) i)
