-- A list whose items are changed in their places: those that stay come to its front.
use Rattle.std.proofs.Common.{◌≡◌, ℕ, ◌+◌, ◌<◌, ◌≤◌, List, length, map, take, set, get_or, sym, ap, subst, ◌∙◌, refl, inl, inr, arith}
use Rattle.std.specs.List.{All, SwappedAt}
use Rattle.std.proofs.lemmas.Bool.{cases_eq}
use Rattle.std.proofs.lemmas.Grind.{get_or-set_at}
use Rattle.std.proofs.lemmas.List.{get_or-map, get_or-set_other, get_or-take, length-take}

-- the first items of a list
abbrev pub Front : {X : Type 0} → (X → Type 0) → ℕ → List X → Type 0
Front {X} P n xs = (j : ℕ) (x : X) → j < n → P (get_or xs j x)

-- the items from a place on
abbrev pub SameFrom : {X : Type 0} → ℕ → List X → List X → Type 0
SameFrom {X} n xs ys = (j : ℕ) (x : X) → n ≤ j → get_or xs j x ≡ get_or ys j x

pub front_taken : {X : Type 0} (P : X → Type 0) (n : ℕ) (xs : List X) → n ≤ length xs → All P (take n xs) → Front P n xs
front_taken P n xs le all j x lt = subst P (get_or-take n xs j x lt) (all j x (omega (arith, length-take n xs)))

pub taken_front : {X : Type 0} (P : X → Type 0) (n : ℕ) (xs ys : List X) → ys ≡ take n xs → Front P n xs → All P ys
taken_front P n xs ys is front = subst (All P) (sym is) (λ k d lt. let less : k < n = omega (arith, length-take n xs) in subst P (sym (get_or-take n xs k d less)) (front k d less))

-- an item that does not stay
pub front_set : {X : Type 0} (P : X → Type 0) (n k : ℕ) (xs ys : List X) (y : X) → ys ≡ set xs k y → n ≤ k → Front P n xs → Front P n ys
front_set P n k xs ys y is le front j x lt = subst (λ zs. P (get_or zs j x)) (sym is) (subst P (sym (get_or-set_other xs k j y x (λ e. absurd (omega (arith, e))))) (front j x lt))

pub same_set : {X : Type 0} (k : ℕ) (xs ys zs : List X) (y : X) → ys ≡ set xs k y → SameFrom k xs zs → SameFrom (k + 1) ys zs
same_set k xs ys zs y is same j x le = ap (λ us. get_or us j x) is ∙ get_or-set_other xs k j y x (λ e. absurd (omega (arith, e))) ∙ same j x (omega arith)

-- one that stays
pub front_swap : {X : Type 0} (P : X → Type 0) (n k : ℕ) (xs ys zs : List X) (y : X) → ys ≡ set xs k y → n ≤ k → k < length xs → SwappedAt ys zs n k → P y → Front P n xs → Front P (n + 1) zs
front_swap P n k xs ys zs y is le lt swapped one front j x less = elim (cases_eq j n) [
  | inl e ↦ subst (λ i. P (get_or zs i x)) (sym e) (subst P (sym (swapped.0 x ∙ ap (λ us. get_or us k x) is ∙ get_or-set_at xs k k y x refl lt)) one)
  | inr ne ↦ subst P (sym (swapped.2 j x ne (λ e. absurd (omega (arith, e))))) (front_set P n k xs ys y is le front j x (omega (arith, ne)))
]

pub same_swap : {X : Type 0} (n k : ℕ) (xs ys zs us : List X) (y : X) → ys ≡ set xs k y → n ≤ k → SwappedAt ys zs n k → SameFrom k xs us → SameFrom (k + 1) zs us
same_swap n k xs ys zs us y is le swapped same j x less = swapped.2 j x (λ e. absurd (omega (arith, e))) (λ e. absurd (omega (arith, e))) ∙ same_set k xs ys us y is same j x less

-- the item at a place
pub there : {X : Type 0} (f : X → ℕ) (xs ys : List X) (k p : ℕ) (x : X) → ys ≡ xs → k < length ys → get_or (map f ys) k 0 ≡ p → x ≡ get_or xs k x → p ≡ f x
there f xs ys k p x same lt is at = sym is ∙ get_or-map f ys k x 0 lt ∙ ap (λ us. f (get_or us k x)) same ∙ ap f (sym at)

-- the first items, whose places are up to a front
pub kept_front : {X : Type 0} (f : X → ℕ) (P Q : X → Type 0) (n front : ℕ) (xs ys : List X) → ys ≡ xs → n ≤ length ys → ((k : ℕ) → k < n → get_or (map f ys) k 0 ≤ front) → ((x : X) → f x ≤ front → P x → Q x) → All P xs → All Q (take n xs)
kept_front f P Q n front xs ys same le up more all k x lt =
    let less : k < n = omega (arith, length-take n xs) in
    let inside : k < length xs = omega (arith, ap length same) in
    subst Q (sym (get_or-take n xs k x less))
    (more (get_or xs k x) (subst (λ m. m ≤ front) (ap (λ us. get_or (map f us) k 0) same ∙ get_or-map f xs k x 0 inside) (up k less)) (all k x inside))
