-- The way to an element of what is picked.
use Rattle.std.proofs.Common.{◌≡◌, ℕ, zero, suc, ◌+◌, ◌-◌, ◌*◌, ◌<◌, ◌≤◌, List, [], ◌∷◌, map, length, drop, get_or, refl, ap, ◌∙◌, arith}
use Rattle.std.specs.Prelude.{ℤ, pos, negsuc, ◌+ℤ◌, ◌*ℤ◌, neg_ℤ, Option}
use Rattle.std.proofs.lemmas.Int.{ints}
use Rattle.std.proofs.lemmas.List.{length-map, get_or-map}
use Rattle.nd_model.specs.Indexing.Slicing.{steps, bound_or, step_or, upwards, downwards, slice_positions}
use Rattle.nd_model.specs.Arrays.Strides.{way_to}
use Rattle.nd_model.specs.Arrays.Tuple.{count_up}
use Rattle.nd_model.specs.Indexing.Selecting.{Item, At, Slice, Ellipsis, NewAxis, Pick, KeptAxis, OnePosition, AddedAxis, picks_of, picked_shape, source}
use Rattle.nd_model.proofs.Selected.{AreFit, source_tuple}
use Rattle.nd_model.proofs.Tuples.{IsTuple}
use Rattle.nd_view.proofs.Tuples.{length-count_up, get_or-count_up}
use Rattle.nd_view.specs.Indexes.{IsIndex}
use Rattle.nd_index.specs.Basic.Layouts.{step_of, picked_strides, picked_way}
use Rattle.nd_index.proofs.basic.Evens.{two_steps, within_steps}

-- ---- positions that are even steps apart

pub record IsEven (ns : List ℕ) : Type 0 where
  pub at : (k : ℕ) → k < length ns → pos (get_or ns k 0) ≡ pos (get_or ns 0 0) +ℤ (pos k *ℤ step_of ns)

numbered_even : (f : ℕ → ℕ) (count : ℕ) → ((k : ℕ) → 1 < count → k < count → pos (f k) ≡ pos (f 0) +ℤ (pos k *ℤ (pos (f 1) +ℤ neg_ℤ (pos (f 0))))) → IsEven (map f (count_up 0 count))
numbered_even f zero even = record { at = λ k lt. absurd (omega arith) }
numbered_even f (suc zero) even = record { at = λ k lt. let first : k ≡ 0 = omega arith in rw first (none (f 0)) }
  where
    none : (a : ℕ) → pos a ≡ pos a +ℤ (pos 0 *ℤ pos 0)
    none a = omega (arith, ints)
numbered_even f (suc (suc n)) even = record {
  at = λ k lt.
      let few : k < suc (suc n) = omega (arith, lt, length-map (count_up 0 (suc (suc n))) f, length-count_up 0 (suc (suc n))) in
      let here : get_or (map f (count_up 0 (suc (suc n)))) k 0 ≡ f k = get_or-map f (count_up 0 (suc (suc n))) k 0 0 (omega (arith, few, length-count_up 0 (suc (suc n)))) ∙ ap f (get_or-count_up 0 (suc (suc n)) k 0 few ∙ plain k) in
      ap pos here ∙ even k (omega arith) few;
}
  where
    plain : (k : ℕ) → 0 + k ≡ k
    plain k = omega arith

upwards_even : (a b s : ℕ) → IsEven (upwards a b s)
upwards_even a b s = numbered_even (λ k. a + k * s) (steps a b s) (λ k many lt. up a k s)
  where
    up : (a k s : ℕ) → pos (a + k * s) ≡ pos (a + 0 * s) +ℤ (pos k *ℤ (pos (a + 1 * s) +ℤ neg_ℤ (pos (a + 0 * s))))
    up a k s =
        let one : 1 * s ≡ s = omega arith in let none : 0 * s ≡ 0 = omega arith in
        let far : pos (a + s) +ℤ neg_ℤ (pos (a + 0)) ≡ pos s = omega (arith, ints) in
        rw (one, none, far) (omega (arith, ints))

downwards_even : (a b s : ℕ) → IsEven (downwards a b (suc s))
downwards_even a b s = numbered_even (λ k. a - 1 - k * suc s) (steps b a (suc s)) (λ k many lt. down (a - 1) k s (first many) (all k lt))
  where
    first : 1 < steps b a (suc s) → suc s ≤ a - 1
    first many = omega (arith, two_steps b a (suc s) many)

    all : (k : ℕ) → k < steps b a (suc s) → k * suc s ≤ a - 1
    all k lt = omega (arith, within_steps b a (suc s) k lt)

    down : (a k s : ℕ) → suc s ≤ a → k * suc s ≤ a → pos (a - k * suc s) ≡ pos (a - 0 * suc s) +ℤ (pos k *ℤ (pos (a - 1 * suc s) +ℤ neg_ℤ (pos (a - 0 * suc s))))
    down a k s le far =
        let one : 1 * suc s ≡ suc s = omega arith in let none : 0 * suc s ≡ 0 = omega arith in
        let back : pos (a - suc s) +ℤ neg_ℤ (pos (a - 0)) ≡ negsuc s = omega (arith, ints) in
        rw (one, none, back) (omega (arith, ints))

pub slice_even : (n : ℕ) (start stop : Option ℤ) (step : ℤ) → IsEven (slice_positions n start stop step)
slice_even n start stop (pos s) = upwards_even (bound_or 0 n 0 start) (bound_or n n 0 stop) s
slice_even n start stop (negsuc s) = downwards_even (bound_or n n 1 start) (bound_or 0 n 1 stop) s

abbrev pub AreEven : List Pick → Type 0
AreEven [] = Unit {0}
AreEven (KeptAxis ns ∷ qs) = IsEven ns × AreEven qs
AreEven (OnePosition k ∷ qs) = AreEven qs
AreEven (AddedAxis ∷ qs) = AreEven qs

pub picks_even : (is : List Item) (sizes : List ℕ) → AreEven (picks_of is sizes)
picks_even [] sizes = tt
picks_even (At z ∷ is) sizes = picks_even is (drop 1 sizes)
picks_even (Slice start stop step ∷ is) sizes = (slice_even (get_or sizes 0 0) start stop (step_or step), picks_even is (drop 1 sizes))
picks_even (Ellipsis ∷ is) sizes = picks_even is sizes
picks_even (NewAxis ∷ is) sizes = picks_even is sizes

-- ---- the way

-- from the first position to another, by the stride of the axis
spread_up : (a i d : ℕ) (s : ℤ) → pos (a + i * d) *ℤ s ≡ (pos a *ℤ s) +ℤ (pos i *ℤ (pos d *ℤ s))
spread_up a i d (pos m) = omega (arith, ints)
spread_up a i zero (negsuc m) = let none : pos 0 *ℤ negsuc m ≡ pos 0 = omega (arith, ints) in let same : a + i * 0 ≡ a = omega arith in rw (none, same) (omega (arith, ints))
spread_up a i (suc d) (negsuc m) = let below : pos (suc d) *ℤ negsuc m ≡ negsuc (d * suc m + m) = omega (arith, ints) in rw below (omega (arith, ints))

spread_down : (n i d : ℕ) (s : ℤ) → pos n *ℤ s ≡ (pos (n + i * suc d) *ℤ s) +ℤ (pos i *ℤ (negsuc d *ℤ s))
spread_down n i d (pos zero) = let none : negsuc d *ℤ pos 0 ≡ pos 0 = omega (arith, ints) in rw none (omega (arith, ints))
spread_down n i d (pos (suc m)) = let below : negsuc d *ℤ pos (suc m) ≡ negsuc (d * suc m + m) = omega (arith, ints) in rw below (omega (arith, ints))
spread_down n i d (negsuc m) = omega (arith, ints)

spread : (n a i : ℕ) (d s : ℤ) → pos n ≡ pos a +ℤ (pos i *ℤ d) → pos n *ℤ s ≡ (pos a *ℤ s) +ℤ (pos i *ℤ (d *ℤ s))
spread n a i (pos d) s e = let same : n ≡ a + i * d = omega (arith, ints, e) in rw same (spread_up a i d s)
spread n a i (negsuc d) s e = let same : a ≡ n + i * suc d = omega (arith, ints, e) in rw same (spread_down n i d s)

regroup : (n a w v x y : ℤ) → n ≡ a +ℤ x → v ≡ w +ℤ y → n +ℤ v ≡ (a +ℤ w) +ℤ (x +ℤ y)
regroup n a w v x y e f = omega (arith, ints, e, f)

behind : (k v w y : ℤ) → v ≡ w +ℤ y → k +ℤ v ≡ (k +ℤ w) +ℤ y
behind k v w y e = omega (arith, ints, e)

added_way : (i : ℕ) (v w y : ℤ) → i < 1 → v ≡ w +ℤ y → v ≡ w +ℤ ((pos i *ℤ pos 0) +ℤ y)
added_way i v w y lt e = omega (arith, ints, e)

pub way_is : (qs : List Pick) (sizes : List ℕ) (strides : List ℤ) (t : List ℕ) → AreFit qs sizes → AreEven qs → length strides ≡ length sizes → IsIndex (picked_shape qs) t
    → way_to (source qs t) strides ≡ picked_way qs strides +ℤ way_to t (picked_strides qs strides)
way_is [] [] strides [] f e same is = refl
way_is [] [] strides (i ∷ t) f e same is = absurd is
way_is [] (n ∷ sizes) strides t f e same is = absurd f
way_is (KeptAxis ns ∷ qs) [] strides t f e same is = absurd f
way_is (KeptAxis ns ∷ qs) (n ∷ sizes) [] t f e same is = absurd (omega arith)
way_is (KeptAxis ns ∷ qs) (n ∷ sizes) (s ∷ strides) [] f e same is = absurd is
way_is (KeptAxis ns ∷ qs) (n ∷ sizes) (s ∷ strides) (i ∷ t) f e same is =
    regroup (pos (get_or ns i 0) *ℤ s) (pos (get_or ns 0 0) *ℤ s) (way_to (source qs []) strides) (way_to (source qs t) strides) (pos i *ℤ (step_of ns *ℤ s)) (way_to t (picked_strides qs strides))
    (spread (get_or ns i 0) (get_or ns 0 0) i (step_of ns) s (e.0.at i is.0)) (way_is qs sizes strides t f.1 e.1 (omega arith) is.1)
way_is (OnePosition k ∷ qs) [] strides t f e same is = absurd f
way_is (OnePosition k ∷ qs) (n ∷ sizes) [] t f e same is = absurd (omega arith)
way_is (OnePosition k ∷ qs) (n ∷ sizes) (s ∷ strides) t f e same is =
    behind (pos k *ℤ s) (way_to (source qs t) strides) (way_to (source qs []) strides) (way_to t (picked_strides qs strides)) (way_is qs sizes strides t f.1 e (omega arith) is)
way_is (AddedAxis ∷ qs) sizes strides [] f e same is = absurd is
way_is (AddedAxis ∷ qs) sizes strides (i ∷ t) f e same is =
    added_way i (way_to (source qs t) strides) (way_to (source qs []) strides) (way_to t (picked_strides qs strides)) is.0 (way_is qs sizes strides t f e same is.1)

-- ---- tuples

tuple_of_index : (shape t : List ℕ) → IsIndex shape t → IsTuple shape t
tuple_of_index [] [] is = tt
tuple_of_index [] (i ∷ t) is = absurd is
tuple_of_index (n ∷ shape) [] is = absurd is
tuple_of_index (n ∷ shape) (i ∷ t) is = (is.0, tuple_of_index shape t is.1)

index_of_tuple : (shape t : List ℕ) → IsTuple shape t → IsIndex shape t
index_of_tuple [] [] is = tt
index_of_tuple [] (i ∷ t) is = absurd is
index_of_tuple (n ∷ shape) [] is = absurd is
index_of_tuple (n ∷ shape) (i ∷ t) is = (is.0, index_of_tuple shape t is.1)

pub source_index : (qs : List Pick) (sizes t : List ℕ) → AreFit qs sizes → IsIndex (picked_shape qs) t → IsIndex sizes (source qs t)
source_index qs sizes t f is = index_of_tuple sizes (source qs t) (source_tuple qs sizes t f (tuple_of_index (picked_shape qs) t is))

-- where there is a tuple, the first one is there
pub first_source : (qs : List Pick) (sizes t : List ℕ) → AreFit qs sizes → IsIndex (picked_shape qs) t → IsIndex sizes (source qs [])
first_source [] [] t f is = tt
first_source [] (n ∷ sizes) t f is = absurd f
first_source (KeptAxis ns ∷ qs) [] t f is = absurd f
first_source (KeptAxis ns ∷ qs) (n ∷ sizes) [] f is = absurd is
first_source (KeptAxis ns ∷ qs) (n ∷ sizes) (i ∷ t) f is = (f.0 0 0 (some i (length ns) is.0), first_source qs sizes t f.1 is.1)
  where
    some : (i n : ℕ) → i < n → 0 < n
    some i n lt = omega arith
first_source (OnePosition k ∷ qs) [] t f is = absurd f
first_source (OnePosition k ∷ qs) (n ∷ sizes) t f is = (f.0, first_source qs sizes t f.1 is)
first_source (AddedAxis ∷ qs) sizes [] f is = absurd is
first_source (AddedAxis ∷ qs) sizes (i ∷ t) f is = first_source qs sizes t f is.1

pub length-strides : (qs : List Pick) (strides : List ℤ) → length (picked_strides qs strides) ≡ length (picked_shape qs)
length-strides [] strides = refl
length-strides (KeptAxis ns ∷ qs) strides = ap suc (length-strides qs (drop 1 strides))
length-strides (OnePosition k ∷ qs) strides = length-strides qs (drop 1 strides)
length-strides (AddedAxis ∷ qs) strides = ap suc (length-strides qs strides)
