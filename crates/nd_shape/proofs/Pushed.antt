-- One element more of a list that a loop builds.
use Rattle.std.proofs.Common.{◌≡◌, ℕ, zero, suc, ◌+◌, ◌-◌, ◌<◌, Bool, true, false, List, [], ◌∷◌, ◌++◌, map, length, get_or, drop, refl, sym, ap, ◌∙◌, arith, add-one, append_assoc, drop-cons}
use Rattle.std.specs.Prelude.{◌&&◌}
use Rattle.std.specs.List.{list_all}
use Rattle.nd_model.specs.Indexing.Transposing.{count_down}

pub joined : {A : Type 0} (items new rest whole : List A) (v : A) → new ≡ items ++ v ∷ [] → items ++ v ∷ rest ≡ whole → new ++ rest ≡ whole
joined items new rest whole v e f = ap (λ l. l ++ rest) e ∙ append_assoc items (v ∷ []) rest ∙ f

pub pushed : {A B C : Type 0} (f : B → A) (g : C → B) (xs : List C) (k : ℕ) (d : C) (items new : List A) (v : A) → k < length xs → v ≡ f (g (get_or xs k d)) → new ≡ items ++ v ∷ []
    → items ++ map f (map g (drop k xs)) ≡ map f (map g xs) → new ++ map f (map g (drop (k + 1) xs)) ≡ map f (map g xs)
pushed f g xs k d items new v lt is e so_far =
    let first : drop k xs ≡ get_or xs k d ∷ drop (k + 1) xs = rw add-one (drop-cons xs k d lt) in
    joined items new (map f (map g (drop (k + 1) xs))) (map f (map g xs)) v e
    ((λ i. items ++ is i ∷ map f (map g (drop (k + 1) xs))) ∙ (λ i. items ++ map f (map g (sym first i))) ∙ so_far)

pub pushed_down : {A : Type 0} (f : ℕ → A) (a : ℕ) (whole items new : List A) (v : A) → 0 < a → v ≡ f (a - 1) → new ≡ items ++ v ∷ []
    → items ++ map f (count_down a) ≡ whole → new ++ map f (count_down (a - 1)) ≡ whole
pushed_down f zero whole items new v lt is e so_far = absurd (omega arith)
pushed_down f (suc b) whole items new v lt is e so_far =
    let back : suc b - 1 ≡ b = omega arith in
    joined items new (map f (count_down (suc b - 1))) whole v e ((λ i. items ++ (is ∙ ap f back) i ∷ map f (count_down (back i))) ∙ so_far)

all_first : {A : Type 0} (p : A → Bool) (x : A) (xs : List A) → list_all p (x ∷ xs) ≡ true → (p x ≡ true) × (list_all p xs ≡ true)
all_first p x xs e = elim (p x) as (λ b. (b && list_all p xs) ≡ true → (b ≡ true) × (list_all p xs ≡ true)) [ true ↦ λ e. (refl, e) | false ↦ λ e. absurd (cc) ] e

pub all_next : {A : Type 0} (p : A → Bool) (xs : List A) (k : ℕ) (d : A) → k < length xs → list_all p (drop k xs) ≡ true → (p (get_or xs k d) ≡ true) × (list_all p (drop (k + 1) xs) ≡ true)
all_next p xs k d lt e =
    let first : drop k xs ≡ get_or xs k d ∷ drop (k + 1) xs = rw add-one (drop-cons xs k d lt) in
    all_first p (get_or xs k d) (drop (k + 1) xs) (sym (ap (list_all p) first) ∙ e)
