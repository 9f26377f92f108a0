-- The elements of an array in C order, from a list of their contents.
use Rattle.std.proofs.Common.{◌≡◌, ℕ, ◌+◌, List, [], ◌∷◌, ◌++◌, map, length, sym, refl, ap, ap₂, ◌∙◌, append_assoc, length-append}
use Rattle.std.specs.List.{flat_map}
use Rattle.nd_model.specs.Arrays.Content.{Content, content_or, content_in_order}
use Rattle.nd_model.specs.Arrays.Tuple.{count_up, elements_of, indices, number}
use Rattle.nd_view.proofs.Tuples.{numbers}

pub flat_map-map : {A B C : Type 0} (f : B → List C) (g : A → B) (xs : List A) → flat_map f (map g xs) ≡ flat_map (λ x. f (g x)) xs
flat_map-map f g [] = refl
flat_map-map f g (x ∷ xs) = ap (λ l. f (g x) ++ l) (flat_map-map f g xs)

-- an item for each number
at_seam : (pre : List Content) (d : Content) (cs : List Content) → content_or (pre ++ d ∷ cs) (length pre) ≡ d
at_seam [] d cs = refl
at_seam (x ∷ pre) d cs = at_seam pre d cs

counted : {B : Type 0} (g : Content → List B) (pre cs : List Content) → flat_map (λ k. g (content_or (pre ++ cs) k)) (count_up (length pre) (length cs)) ≡ flat_map g cs
counted g pre [] = refl
counted g pre (d ∷ cs) =
    let next : length pre + 1 ≡ length (pre ++ d ∷ []) = sym (length-append pre (d ∷ [])) in
    ap₂ (λ a b. a ++ b) (ap g (at_seam pre d cs))
    ((λ i. flat_map (λ k. g (content_or (sym (append_assoc pre (d ∷ []) cs) i) k)) (count_up (next i) (length cs))) ∙ counted g (pre ++ d ∷ []) cs)

-- a list with a content for each element
pub in_order : {B : Type 0} (g : Content → List B) (shape : List ℕ) (cs : List Content) → length cs ≡ elements_of shape
    → flat_map (λ i. g (content_in_order shape cs i)) (indices shape) ≡ flat_map g cs
in_order g shape cs same =
    sym (flat_map-map (λ k. g (content_or cs k)) (number shape) (indices shape))
    ∙ ap (flat_map (λ k. g (content_or cs k))) (numbers shape ∙ ap (count_up 0) (sym same))
    ∙ counted g [] cs
