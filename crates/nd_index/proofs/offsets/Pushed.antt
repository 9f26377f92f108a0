-- One item more of a list.
use Rattle.std.proofs.Common.{◌≡◌, ℕ, ◌+◌, ◌-◌, ◌<◌, List, [], ◌∷◌, ◌++◌, map, length, take, drop, get_or, replicate, sym, ap, ◌∙◌, arith, append_assoc, append-nil}
use Rattle.std.specs.List.{flat_map}
use Rattle.std.specs.Prelude.{Result, Ok, Err}
use Rattle.std.specs.Result.{IfOk}
use Rattle.std.proofs.lemmas.Grind.{flat_map-append}
use Rattle.std.proofs.lemmas.List.{take_more, take_all, map-append, length-drop, replicate-append-replicate}
use Rattle.nd_model.specs.Arrays.Tuple.{count_up}
use Rattle.nd_view.proofs.Tuples.{count_up_more}

-- the same thing pushed once more
pub pushed_again : {A B : Type 0} (f : A → B) (old new : List A) (x : A) (w : B) (first : List B) (n : ℕ) → new ≡ old ++ x ∷ [] → f x ≡ w
    → map f old ≡ first ++ replicate n w → map f new ≡ first ++ replicate (n + 1) w
pushed_again f old new x w first n is same so_far =
    ap (map f) is ∙ map-append f old (x ∷ []) ∙ (λ i. so_far i ++ same i ∷ []) ∙ append_assoc first (replicate n w) (w ∷ []) ∙ ap (λ l. first ++ l) (replicate-append-replicate n 1 w)

-- what belongs to one item more
pub mapped_again : {A B : Type 0} (f : A → B) (xs : List A) (k : ℕ) (d : A) (first old new : List B) (y : B) → k < length xs → new ≡ old ++ y ∷ [] → y ≡ f (get_or xs k d)
    → old ≡ first ++ map f (take k xs) → new ≡ first ++ map f (take (k + 1) xs)
mapped_again f xs k d first old new y lt is same so_far =
    is ∙ (λ i. so_far i ++ same i ∷ []) ∙ append_assoc first (map f (take k xs)) (f (get_or xs k d) ∷ [])
    ∙ ap (λ l. first ++ l) (sym (map-append f (take k xs) (get_or xs k d ∷ [])) ∙ ap (map f) (sym (take_more xs k d lt)))

-- the pieces of one item more
pub joined_again : {A B : Type 0} (f : A → List B) (xs : List A) (k : ℕ) (d : A) (first old new piece : List B) → k < length xs → new ≡ old ++ piece → piece ≡ f (get_or xs k d)
    → old ≡ first ++ flat_map f (take k xs) → new ≡ first ++ flat_map f (take (k + 1) xs)
joined_again f xs k d first old new piece lt is same so_far =
    is ∙ (λ i. so_far i ++ same i) ∙ append_assoc first (flat_map f (take k xs)) (f (get_or xs k d))
    ∙ ap (λ l. first ++ l) (ap (λ l. flat_map f (take k xs) ++ l) (sym (append-nil (f (get_or xs k d))))
    ∙ sym (flat_map-append f (take k xs) (get_or xs k d ∷ [])) ∙ ap (flat_map f) (sym (take_more xs k d lt)))

pub counted_again : {B : Type 0} (f : ℕ → List B) (k : ℕ) (old new piece : List B) → new ≡ old ++ piece → piece ≡ f k → old ≡ flat_map f (count_up 0 k) → new ≡ flat_map f (count_up 0 (k + 1))
counted_again f k old new piece is same so_far =
    is ∙ (λ i. so_far i ++ same i) ∙ ap (λ l. flat_map f (count_up 0 k) ++ l) (sym (append-nil (f k)))
    ∙ sym (flat_map-append f (count_up 0 k) (k ∷ [])) ∙ ap (flat_map f) (sym (count_up_more 0 k ∙ ap (λ j. count_up 0 k ++ j ∷ []) (from_none k)))
  where
    from_none : (k : ℕ) → 0 + k ≡ k
    from_none k = omega arith

-- what follows from what a result has
pub ok_then : {X E : Type 0} (P Q : X → Type 0) (r : Result X E) → ((v : X) → P v → Q v) → IfOk r P → IfOk r Q
ok_then P Q (Ok v) h p = h v p
ok_then P Q (Err e) h p = p

-- the rest of a list, as the code cuts it off
pub rest_of : {A : Type 0} (k : ℕ) (xs : List A) → take (length xs - k) (drop k xs) ≡ drop k xs
rest_of k xs = take_all (length xs - k) (drop k xs) (omega (arith, length-drop k xs))
