-- What is at the index tuples of a shape, by its last axis, and beside an axis of length 1.
use Rattle.std.proofs.Common.{◌≡◌, ℕ, suc, List, [], ◌∷◌, ◌++◌, map, length, take, drop, refl, sym, ap, ◌∙◌, append-nil}
use Rattle.std.specs.List.{flat_map}
use Rattle.std.proofs.lemmas.Grind.{flat_map-append}
use Rattle.std.proofs.lemmas.List.Folds.{flat_map-map}
use Rattle.nd_model.specs.Arrays.Tuple.{count_up, indices}
use Rattle.nd_view.proofs.Tuples.{map-map, map-flat_map, flat_map_same}

pub flat_map-flat_map : {A B X : Type 0} (f : B → List X) (g : A → List B) (xs : List A) → flat_map f (flat_map g xs) ≡ flat_map (λ x. flat_map f (g x)) xs
flat_map-flat_map f g [] = refl
flat_map-flat_map f g (x ∷ xs) = flat_map-append f (g x) (flat_map g xs) ∙ ap (λ l. flat_map f (g x) ++ l) (flat_map-flat_map f g xs)

singles : {A X : Type 0} (f : A → X) (xs : List A) → flat_map (λ x. f x ∷ []) xs ≡ map f xs
singles f [] = refl
singles f (x ∷ xs) = ap (λ l. f x ∷ l) (singles f xs)

pub rows : {X : Type 0} (h : List ℕ → X) (s : List ℕ) (n : ℕ) → map h (indices (s ++ n ∷ [])) ≡ flat_map (λ t. map (λ j. h (t ++ j ∷ [])) (count_up 0 n)) (indices s)
rows h [] n =
    map-flat_map h (λ i. map (λ t. i ∷ t) ([] ∷ [])) (count_up 0 n) ∙ singles (λ i. h (i ∷ [])) (count_up 0 n)
    ∙ sym (append-nil (map (λ j. h (j ∷ [])) (count_up 0 n)))
rows h (m ∷ s) n =
    map-flat_map h (λ i. map (λ t. i ∷ t) (indices (s ++ n ∷ []))) (count_up 0 m)
    ∙ flat_map_same (λ i. map h (map (λ t. i ∷ t) (indices (s ++ n ∷ [])))) (λ i. flat_map (λ t. map (λ j. h (i ∷ (t ++ j ∷ []))) (count_up 0 n)) (indices s))
    (λ i. map-map h (λ t. i ∷ t) (indices (s ++ n ∷ [])) ∙ rows (λ t. h (i ∷ t)) s n) (count_up 0 m)
    ∙ sym (flat_map-flat_map (λ t. map (λ j. h (t ++ j ∷ [])) (count_up 0 n)) (λ i. map (λ t. i ∷ t) (indices s)) (count_up 0 m)
    ∙ flat_map_same (λ i. flat_map (λ t. map (λ j. h (t ++ j ∷ [])) (count_up 0 n)) (map (λ t. i ∷ t) (indices s))) (λ i. flat_map (λ t. map (λ j. h (i ∷ (t ++ j ∷ []))) (count_up 0 n)) (indices s))
    (λ i. flat_map-map (λ t. map (λ j. h (t ++ j ∷ [])) (count_up 0 n)) (λ t. i ∷ t) (indices s)) (count_up 0 m))

-- an axis of length 1 has the index 0
pub kept_axis : {X : Type 0} (h : List ℕ → X) (p q : List ℕ) → map h (indices (p ++ 1 ∷ q)) ≡ map (λ t. h (take (length p) t ++ 0 ∷ drop (length p) t)) (indices (p ++ q))
kept_axis h [] q =
    map-flat_map h (λ i. map (λ t. i ∷ t) (indices q)) (0 ∷ []) ∙ append-nil (map h (map (λ t. 0 ∷ t) (indices q))) ∙ map-map h (λ t. 0 ∷ t) (indices q)
kept_axis h (m ∷ p) q =
    let k : ℕ = length p in
    map-flat_map h (λ i. map (λ t. i ∷ t) (indices (p ++ 1 ∷ q))) (count_up 0 m)
    ∙ flat_map_same (λ i. map h (map (λ t. i ∷ t) (indices (p ++ 1 ∷ q)))) (λ i. map (λ t. h (i ∷ (take k t ++ 0 ∷ drop k t))) (indices (p ++ q)))
    (λ i. map-map h (λ t. i ∷ t) (indices (p ++ 1 ∷ q)) ∙ kept_axis (λ t. h (i ∷ t)) p q) (count_up 0 m)
    ∙ sym (map-flat_map (λ t. h (take (suc k) t ++ 0 ∷ drop (suc k) t)) (λ i. map (λ t. i ∷ t) (indices (p ++ q))) (count_up 0 m)
    ∙ flat_map_same (λ i. map (λ t. h (take (suc k) t ++ 0 ∷ drop (suc k) t)) (map (λ t. i ∷ t) (indices (p ++ q)))) (λ i. map (λ t. h (i ∷ (take k t ++ 0 ∷ drop k t))) (indices (p ++ q)))
    (λ i. map-map (λ t. h (take (suc k) t ++ 0 ∷ drop (suc k) t)) (λ t. i ∷ t) (indices (p ++ q))) (count_up 0 m))
