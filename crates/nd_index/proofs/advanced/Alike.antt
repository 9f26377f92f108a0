-- Arrays of the common shape itself.
use Rattle.std.proofs.Common.{◌≡◌, ℕ, suc, ◌+◌, ◌-◌, List, [], ◌∷◌, map, length, take, drop, get_or, refl, sym, ap, ◌∙◌, inl, inr, arith, eqb-true}
use Rattle.std.specs.Prelude.{ℤ, ◌+ℤ◌, nat_eq}
use Rattle.std.proofs.lemmas.Bool.{cases_Bool}
use Rattle.nd_model.specs.Indexing.Advanced.{Spread, number_at, unravelled}
use Rattle.nd_model.specs.Arrays.Broadcast.{narrowed_axes, own_tuple}
use Rattle.nd_model.specs.Arrays.Strides.{way_to}
use Rattle.nd_model.specs.Arrays.Tuple.{count_up, elements_of, indices, number}
use Rattle.nd_view.specs.Indexes.{IsIndex}
use Rattle.nd_view.proofs.Indexed.{same_indexes}
use Rattle.nd_view.proofs.Steps.{length-index}
use Rattle.nd_view.proofs.Tuples.{map-map, map_same, numbers, shifted}
use Rattle.nd_index.specs.Advanced.TakenWays.{way_by}
use Rattle.nd_index.specs.Offsets.Ways.{sums_of}
use Rattle.nd_index.proofs.advanced.Spreads.{by_own, cut}

narrowed_same : (shape t : List ℕ) → IsIndex shape t → narrowed_axes shape t ≡ t
narrowed_same [] [] is = refl
narrowed_same [] (i ∷ t) is = absurd is
narrowed_same (n ∷ shape) [] is = absurd is
narrowed_same (n ∷ shape) (i ∷ t) is = elim (cases_Bool (nat_eq n 1)) [
  | inl one ↦ let single : n ≡ 1 = eqb-true n 1 one in let first : 0 ≡ i = omega (arith, single, is.0) in rw one (λ k. first k ∷ narrowed_same shape t is.1 k)
  | inr other ↦ rw other (ap (λ l. i ∷ l) (narrowed_same shape t is.1))
]

-- a tuple of the common shape is that of an array of this shape
pub own_same : (shape t : List ℕ) → IsIndex shape t → own_tuple shape t ≡ t
own_same shape t is = let none : length t - length shape ≡ 0 = omega (arith, length-index shape t is) in rw none (narrowed_same shape t is)

read_all : (ks : List ℕ) → map (λ k. get_or ks k 0) (count_up 0 (length ks)) ≡ ks
read_all [] = refl
read_all (x ∷ ks) = ap (λ l. x ∷ l) (ap (map (λ k. get_or (x ∷ ks) k 0)) (sym (shifted 1 0 (length ks))) ∙ map-map (λ k. get_or (x ∷ ks) k 0) (λ k. 1 + k) (count_up 0 (length ks))
    ∙ map_same (λ k. get_or (x ∷ ks) (1 + k) 0) (λ k. get_or ks k 0) (λ k. ap (λ j. get_or (x ∷ ks) j 0) (next k)) (count_up 0 (length ks)) ∙ read_all ks)
  where
    next : (k : ℕ) → 1 + k ≡ suc k
    next k = omega arith

numbers_read : (shape ks : List ℕ) → length ks ≡ elements_of shape → map (number_at shape ks) (indices shape) ≡ ks
numbers_read shape ks long =
    same_indexes (number_at shape ks) (λ t. get_or ks (number shape t) 0) shape (λ t is. ap (λ u. get_or ks (number shape u) 0) (own_same shape t is))
    ∙ sym (map-map (λ k. get_or ks k 0) (number shape) (indices shape)) ∙ ap (map (λ k. get_or ks k 0)) (numbers shape ∙ ap (count_up 0) (sym long)) ∙ read_all ks

summed_all : {X : Type 0} (f g : X → ℤ) (ts : List X) → sums_of (map f ts) (map g ts) ≡ map (λ t. f t +ℤ g t) ts
summed_all f g [] = refl
summed_all f g (t ∷ ts) = ap (λ l. (f t +ℤ g t) ∷ l) (summed_all f g ts)

-- an array of the common shape leads as far as its numbers do one by one
pub alike_led : (shape ks many sizes : List ℕ) (strides : List ℤ) (axis axes : ℕ) (before own after : List ℤ) (f : List ℕ → ℤ)
    → own ≡ map (λ k. way_to (unravelled (take (axis + axes - axis) (drop axis sizes)) k) (take (axis + axes - axis) (drop axis strides))) ks
    → shape ≡ many → length ks ≡ elements_of shape → after ≡ sums_of before own → before ≡ map f (indices many)
    → after ≡ map (λ m. f m +ℤ way_by (Spread axes shape ks) (drop axis sizes) (drop axis strides) m) (indices many)
alike_led shape ks many sizes strides axis axes before own after f owns same long is were =
    let w : ℕ → ℤ = λ k. way_to (unravelled (take axes (drop axis sizes)) k) (take axes (drop axis strides)) in
    let all : own ≡ map (λ m. w (number_at shape ks m)) (indices many)
    = owns ∙ (λ i. map (λ k. way_to (unravelled (cut axis axes sizes i) k) (cut axis axes strides i)) ks) ∙ ap (map w) (sym (numbers_read shape ks long))
    ∙ map-map w (number_at shape ks) (indices shape) ∙ ap (λ s. map (λ m. w (number_at shape ks m)) (indices s)) same in
    is ∙ (λ i. sums_of (were i) (all i)) ∙ summed_all f (λ m. w (number_at shape ks m)) (indices many)
    ∙ map_same (λ m. f m +ℤ w (number_at shape ks m)) (λ m. f m +ℤ way_by (Spread axes shape ks) (drop axis sizes) (drop axis strides) m)
    (λ m. ap (λ z. f m +ℤ z) (sym (by_own axes shape ks (drop axis sizes) (drop axis strides) m))) (indices many)

-- the ways of an array of the common shape are those of its numbers one by one
pub alike_ways : (shape ks many sizes : List ℕ) (strides : List ℤ) (axes : ℕ) → shape ≡ many → length ks ≡ elements_of shape
    → map (way_by (Spread axes shape ks) sizes strides) (indices many) ≡ map (λ k. way_to (unravelled (take axes sizes) k) (take axes strides)) ks
alike_ways shape ks many sizes strides axes same long =
    let w : ℕ → ℤ = λ k. way_to (unravelled (take axes sizes) k) (take axes strides) in
    map_same (way_by (Spread axes shape ks) sizes strides) (λ m. w (number_at shape ks m)) (by_own axes shape ks sizes strides) (indices many)
    ∙ ap (λ s. map (λ m. w (number_at shape ks m)) (indices s)) (sym same) ∙ sym (map-map w (number_at shape ks) (indices shape)) ∙ ap (map w) (numbers_read shape ks long)
