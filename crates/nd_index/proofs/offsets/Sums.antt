-- Sums of strides.
use Rattle.std.proofs.Common.{◌≡◌, ℕ, zero, suc, ◌+◌, ◌-◌, ◌*◌, ◌/◌, ◌%◌, ◌^◌, ◌<◌, ◌≤◌, Bool, true, false, cond, List, [], ◌∷◌, ◌++◌, map, length, take, drop, get_or, replicate, refl, sym, ap, ◌∙◌, arith, length-append}
use Rattle.std.specs.Prelude.{ℤ, pos, ◌+ℤ◌, ◌*ℤ◌, ◌||◌, nat_eq, nat_lt, unsigned_abs}
use Rattle.std.specs.List.{flat_map, list_any, All}
use Rattle.std.proofs.Math.Nat.{mul-le-mul}
use Rattle.std.proofs.lemmas.Bool.Decides.{nat_tests}
use Rattle.std.proofs.lemmas.Int.{ints, unsigned_abs-mul}
use Rattle.std.proofs.lemmas.List.{length-replicate}
use Rattle.std.proofs.lemmas.List.Elements.{All-nil, All-cons, All-head, All-tail, All-map, All-weaker, All-append}
use Rattle.nd_model.specs.Indexing.Advanced.{unravelled}
use Rattle.nd_model.specs.Arrays.Broadcast.{narrowed_axes, own_tuple}
use Rattle.nd_model.specs.Arrays.Strides.{way_to}
use Rattle.nd_model.specs.Arrays.Tuple.{count_up, elements_of, indices, number}
use Rattle.nd_model.proofs.Tuples.{IsTuple, all_tuples}
use Rattle.nd_view.specs.Indexes.{IsIndex}
use Rattle.nd_view.proofs.Counts.{rest_some}
use Rattle.nd_view.proofs.Indexed.{same_indexes}
use Rattle.nd_view.proofs.Steps.{length-index}
use Rattle.nd_view.proofs.Tuples.{map-map, map-flat_map, flat_map_same}
use Rattle.nd_index.specs.Offsets.Ways.{AreNear, ways, narrowed_strides, own_strides}
use Rattle.nd_places.proofs.Fronts.{drop_one}

-- ---- index tuples

pub index_of : (shape t : List ℕ) → IsTuple shape t → IsIndex shape t
index_of [] [] is = tt
index_of [] (i ∷ t) is = absurd is
index_of (n ∷ shape) [] is = absurd is
index_of (n ∷ shape) (i ∷ t) is = (is.0, index_of shape t is.1)

pub tuple_of : (shape t : List ℕ) → IsIndex shape t → IsTuple shape t
tuple_of [] [] is = tt
tuple_of [] (i ∷ t) is = absurd is
tuple_of (n ∷ shape) [] is = absurd is
tuple_of (n ∷ shape) (i ∷ t) is = (is.0, tuple_of shape t is.1)

-- what is so at each tuple is so of all
pub each_index : {X : Type 0} (P : X → Type 0) (f : List ℕ → X) (shape : List ℕ) → ((t : List ℕ) → IsIndex shape t → P (f t)) → All P (map f (indices shape))
each_index P f shape h =
    All-map P f (indices shape) (All-weaker (IsTuple shape) (λ t. P (f t)) (λ t is. h t (index_of shape t is)) (indices shape) (all_tuples shape))

few_index : (shape t : List ℕ) → IsIndex shape t → All (λ n. n ≤ 2 ^ 32) shape → All (λ i. i ≤ 2 ^ 32) t
few_index [] [] is few = All-nil (λ i. i ≤ 2 ^ 32)
few_index [] (i ∷ t) is few = absurd is
few_index (n ∷ shape) [] is few = absurd is
few_index (n ∷ shape) (i ∷ t) is few =
    All-cons (λ i. i ≤ 2 ^ 32) i t (omega (arith, is.0, All-head (λ n. n ≤ 2 ^ 32) n shape few)) (few_index shape t is.1 (All-tail (λ n. n ≤ 2 ^ 32) n shape few))

pub few_lengths : (shape : List ℕ) → list_any (nat_lt (2 ^ 32)) shape ≡ false → All (λ n. n ≤ 2 ^ 32) shape
few_lengths [] e = All-nil (λ n. n ≤ 2 ^ 32)
few_lengths (n ∷ shape) e =
    let parts = both (nat_lt (2 ^ 32) n) (list_any (nat_lt (2 ^ 32)) shape) e in
    All-cons (λ n. n ≤ 2 ^ 32) n shape (below (2 ^ 32) n parts.0) (few_lengths shape parts.1)
  where
    both : (a b : Bool) → (a || b) ≡ false → (a ≡ false) × (b ≡ false)
    both true b e = absurd cc
    both false b e = (refl, e)

    below : (m n : ℕ) → nat_lt m n ≡ false → n ≤ m
    below m n e = grind (arith, nat_tests)

-- ---- ways

sum_assoc : (a b c : ℤ) → a +ℤ (b +ℤ c) ≡ (a +ℤ b) +ℤ c
sum_assoc a b c = omega (arith, ints)

none_before : (z : ℤ) → z ≡ pos 0 +ℤ z
none_before z = omega (arith, ints)

no_step : (i : ℕ) (z : ℤ) → (pos i *ℤ pos 0) +ℤ z ≡ z
no_step i z = omega (arith, ints)

first_step : (s z : ℤ) → (pos 0 *ℤ s) +ℤ z ≡ z
first_step s z = omega (arith, ints)

pub no_way : (t : List ℕ) → way_to t [] ≡ pos 0
no_way [] = refl
no_way (i ∷ t) = refl

pub still : (n : ℕ) (t : List ℕ) → way_to t (replicate n (pos 0)) ≡ pos 0
still zero t = no_way t
still (suc n) [] = refl
still (suc n) (i ∷ t) = no_step i (way_to t (replicate n (pos 0))) ∙ still n t

pub way_append : (u v : List ℕ) (strides : List ℤ) → way_to (u ++ v) strides ≡ way_to u strides +ℤ way_to v (drop (length u) strides)
way_append [] v ss = none_before (way_to v ss)
way_append (i ∷ u) v [] = rw (no_way v) refl
way_append (i ∷ u) v (s ∷ ss) = ap (λ z. (pos i *ℤ s) +ℤ z) (way_append u v ss) ∙ sum_assoc (pos i *ℤ s) (way_to u ss) (way_to v (drop (length u) ss))

pub way_take : (k : ℕ) (t : List ℕ) (strides : List ℤ) → length t ≤ k → way_to t (take k strides) ≡ way_to t strides
way_take k [] ss le = refl
way_take zero (i ∷ t) ss le = absurd (omega arith)
way_take (suc k) (i ∷ t) [] le = refl
way_take (suc k) (i ∷ t) (s ∷ ss) le = ap (λ z. (pos i *ℤ s) +ℤ z) (way_take k t ss (omega arith))

-- one axis more
pub widened : (n : ℕ) (s : ℤ) (shape : List ℕ) (ss : List ℤ) → flat_map (λ k. map (λ z. (pos k *ℤ s) +ℤ z) (ways shape ss)) (count_up 0 n) ≡ ways (n ∷ shape) (s ∷ ss)
widened n s shape ss =
    flat_map_same (λ k. map (λ z. (pos k *ℤ s) +ℤ z) (ways shape ss)) (λ k. map (λ t. way_to (k ∷ t) (s ∷ ss)) (indices shape))
    (λ k. map-map (λ z. (pos k *ℤ s) +ℤ z) (λ t. way_to t ss) (indices shape)) (count_up 0 n)
    ∙ sym (map-flat_map (λ t. way_to t (s ∷ ss)) (λ k. map (λ t. k ∷ t) (indices shape)) (count_up 0 n)
    ∙ flat_map_same (λ k. map (λ t. way_to t (s ∷ ss)) (map (λ t. k ∷ t) (indices shape))) (λ k. map (λ t. way_to (k ∷ t) (s ∷ ss)) (indices shape))
    (λ k. map-map (λ t. way_to t (s ∷ ss)) (λ t. k ∷ t) (indices shape)) (count_up 0 n))

pub widened_at : (lengths : List ℕ) (strides : List ℤ) (axis : ℕ) → axis < length lengths → axis < length strides
    → flat_map (λ k. map (λ z. (pos k *ℤ get_or strides axis (pos 0)) +ℤ z) (ways (drop (axis + 1) lengths) (drop (axis + 1) strides))) (count_up 0 (get_or lengths axis 0))
    ≡ ways (drop axis lengths) (drop axis strides)
widened_at lengths strides axis lt lt' =
    widened (get_or lengths axis 0) (get_or strides axis (pos 0)) (drop (axis + 1) lengths) (drop (axis + 1) strides)
    ∙ (λ i. ways (sym (drop_one lengths axis 0 lt) i) (sym (drop_one strides axis (pos 0) lt') i))

-- ---- how far they lead

abs_sum : (a b : ℤ) → unsigned_abs (a +ℤ b) ≤ unsigned_abs a + unsigned_abs b
abs_sum a b = omega (arith, ints)

pub abs_product : (i : ℕ) (s : ℤ) → i ≤ 2 ^ 32 → unsigned_abs s < 2 ^ 64 → unsigned_abs (pos i *ℤ s) ≤ 2 ^ 96
abs_product i s few range =
    let below : unsigned_abs s ≤ 2 ^ 64 = omega (arith, range) in
    let product : i * unsigned_abs s ≤ 2 ^ 32 * 2 ^ 64 = mul-le-mul few below in
    rw (unsigned_abs-mul (pos i) s) product

pub way_near : (t : List ℕ) (strides : List ℤ) → All (λ i. i ≤ 2 ^ 32) t → All (λ s. unsigned_abs s < 2 ^ 64) strides → unsigned_abs (way_to t strides) ≤ length t * 2 ^ 96
way_near [] ss few range = omega arith
way_near (i ∷ t) [] few range = omega arith
way_near (i ∷ t) (s ∷ ss) few range =
    let first : unsigned_abs (pos i *ℤ s) ≤ 2 ^ 96 = abs_product i s (All-head (λ i. i ≤ 2 ^ 32) i t few) (All-head (λ s. unsigned_abs s < 2 ^ 64) s ss range) in
    let rest : unsigned_abs (way_to t ss) ≤ length t * 2 ^ 96 = way_near t ss (All-tail (λ i. i ≤ 2 ^ 32) i t few) (All-tail (λ s. unsigned_abs s < 2 ^ 64) s ss range) in
    omega (arith, first, rest, abs_sum (pos i *ℤ s) (way_to t ss))

pub ways_near : (shape : List ℕ) (strides : List ℤ) → length shape ≤ 64 → All (λ n. n ≤ 2 ^ 32) shape → All (λ s. unsigned_abs s < 2 ^ 64) strides → AreNear (ways shape strides)
ways_near shape ss most few range = each_index (λ z. unsigned_abs z ≤ 2 ^ 112) (λ t. way_to t ss) shape (λ t is. near t is)
  where
    near : (t : List ℕ) → IsIndex shape t → unsigned_abs (way_to t ss) ≤ 2 ^ 112
    near t is = omega (arith, way_near t ss (few_index shape t is few) range, length-index shape t is, most)

-- ---- the tuple of a number

zero_parts : (e : ℕ) → (0 / e ≡ 0) × (0 % e ≡ 0)
zero_parts zero = (refl, refl)
zero_parts (suc e) = (omega arith, omega arith)

pub zero_way : (shape : List ℕ) (strides : List ℤ) → way_to (unravelled shape 0) strides ≡ pos 0
zero_way [] ss = refl
zero_way (n ∷ shape) [] = refl
zero_way (n ∷ shape) (s ∷ ss) =
    let parts = zero_parts (elements_of shape) in
    rw (parts.0, parts.1) (first_step s (way_to (unravelled shape 0) ss) ∙ zero_way shape ss)

pub quotient_few : (k e : ℕ) → k / e ≤ k
quotient_few k zero = omega arith
quotient_few k (suc e) = omega arith

pub rest_few : (k e : ℕ) → k % e ≤ k
rest_few k zero = omega arith
rest_few k (suc e) = omega arith

pub few_digits : (shape : List ℕ) (k : ℕ) → k ≤ 2 ^ 32 → All (λ i. i ≤ 2 ^ 32) (unravelled shape k)
few_digits [] k few = All-nil (λ i. i ≤ 2 ^ 32)
few_digits (n ∷ shape) k few =
    All-cons (λ i. i ≤ 2 ^ 32) (k / elements_of shape) (unravelled shape (k % elements_of shape)) (omega (arith, few, quotient_few k (elements_of shape)))
    (few_digits shape (k % elements_of shape) (omega (arith, few, rest_few k (elements_of shape))))

pub length-unravelled : (shape : List ℕ) (k : ℕ) → length (unravelled shape k) ≡ length shape
length-unravelled [] k = refl
length-unravelled (n ∷ shape) k = ap suc (length-unravelled shape (k % elements_of shape))

-- ---- the numbers of the elements of a shape that is stretched

one_axis : (b : Bool) (i e k : ℕ) → (pos i *ℤ cond b (pos 0) (pos e)) +ℤ pos k ≡ pos (cond b 0 i * e + k)
one_axis true i e k = omega (arith, ints)
one_axis false i e k = refl

narrowed_way : (shape u : List ℕ) → way_to u (narrowed_strides shape) ≡ pos (number shape (narrowed_axes shape u))
narrowed_way [] u = no_way u
narrowed_way (n ∷ shape) [] = refl
narrowed_way (n ∷ shape) (i ∷ u) =
    ap (λ z. (pos i *ℤ cond (nat_eq n 1) (pos 0) (pos (elements_of shape))) +ℤ z) (narrowed_way shape u)
    ∙ one_axis (nat_eq n 1) i (elements_of shape) (number shape (narrowed_axes shape u))

front_way : (k : ℕ) (m : List ℕ) (ss : List ℤ) → k ≤ length m → way_to m (replicate k (pos 0) ++ ss) ≡ way_to (drop k m) ss
front_way zero m ss le = refl
front_way (suc k) [] ss le = absurd (omega arith)
front_way (suc k) (i ∷ m) ss le = no_step i (way_to m (replicate k (pos 0) ++ ss)) ∙ front_way k m ss (omega arith)

own_way : (shape m : List ℕ) (axes : ℕ) → length m ≡ axes → way_to m (take axes (own_strides axes shape)) ≡ pos (number shape (own_tuple shape m))
own_way shape m axes e =
    way_take axes m (own_strides axes shape) (omega (arith, e)) ∙ front_way (axes - length shape) m (narrowed_strides shape) (omega (arith, e))
    ∙ narrowed_way shape (drop (axes - length shape) m) ∙ ap (λ a. pos (number shape (narrowed_axes shape (drop (a - length shape) m)))) (sym e)

pub own_numbers : (shape many : List ℕ) → ways many (take (length many) (own_strides (length many) shape)) ≡ map (λ m. pos (number shape (own_tuple shape m))) (indices many)
own_numbers shape many =
    same_indexes (λ m. way_to m (take (length many) (own_strides (length many) shape))) (λ m. pos (number shape (own_tuple shape m))) many
    (λ m is. own_way shape m (length many) (length-index many m is))

length-narrowed : (shape : List ℕ) → length (narrowed_strides shape) ≡ length shape
length-narrowed [] = refl
length-narrowed (n ∷ shape) = ap suc (length-narrowed shape)

pub length-own : (axes : ℕ) (shape : List ℕ) → axes ≤ length (own_strides axes shape)
length-own axes shape =
    omega (arith, length-append (replicate (axes - length shape) (pos 0)) (narrowed_strides shape), length-replicate (axes - length shape) (pos 0), length-narrowed shape)

axis_range : (b : Bool) (e : ℕ) → e ≤ 2 ^ 24 → unsigned_abs (cond b (pos 0) (pos e)) < 2 ^ 64
axis_range true e few = omega arith
axis_range false e few = omega (arith, few)

narrowed_range : (shape : List ℕ) → 0 < elements_of shape → elements_of shape ≤ 2 ^ 24 → All (λ s. unsigned_abs s < 2 ^ 64) (narrowed_strides shape)
narrowed_range [] some few = All-nil (λ s. unsigned_abs s < 2 ^ 64)
narrowed_range (n ∷ shape) some few =
    let rest : 0 < elements_of shape = rest_some n (elements_of shape) some in
    let less : elements_of shape ≤ 2 ^ 24 = fewer n (elements_of shape) some few in
    All-cons (λ s. unsigned_abs s < 2 ^ 64) (cond (nat_eq n 1) (pos 0) (pos (elements_of shape))) (narrowed_strides shape) (axis_range (nat_eq n 1) (elements_of shape) less) (narrowed_range shape rest less)
  where
    fewer : (n e : ℕ) → 0 < n * e → n * e ≤ 2 ^ 24 → e ≤ 2 ^ 24
    fewer zero e some few = absurd (omega arith)
    fewer (suc n) e some few = omega (arith, few)

pub none_range : (k : ℕ) → All (λ s. unsigned_abs s < 2 ^ 64) (replicate k (pos 0))
none_range zero = All-nil (λ s. unsigned_abs s < 2 ^ 64)
none_range (suc k) = All-cons (λ s. unsigned_abs s < 2 ^ 64) (pos 0) (replicate k (pos 0)) (omega arith) (none_range k)

pub own_range : (axes : ℕ) (shape : List ℕ) → 0 < elements_of shape → elements_of shape ≤ 2 ^ 24 → All (λ s. unsigned_abs s < 2 ^ 64) (own_strides axes shape)
own_range axes shape some few =
    All-append (λ s. unsigned_abs s < 2 ^ 64) (replicate (axes - length shape) (pos 0)) (narrowed_strides shape) (none_range (axes - length shape)) (narrowed_range shape some few)
