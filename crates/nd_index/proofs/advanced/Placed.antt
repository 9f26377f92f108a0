-- Where the elements lie that are chosen of a view.
use Rattle.std.proofs.Common.{◌≡◌, ℕ, zero, suc, ◌+◌, ◌^◌, ◌<◌, ◌≤◌, true, List, [], ◌∷◌, ◌++◌, map, length, take, drop, get_or, refl, sym, ap, subst, ◌∙◌, arith, append-nil, length-append}
use Rattle.std.specs.Prelude.{None, ℤ, pos, ◌+ℤ◌, ◌≤ℤ◌, ◌<ℤ◌, unsigned_abs, int_le, int_lt, ◌&&◌}
use Rattle.std.specs.List.{flat_map, All}
use Rattle.std.proofs.lemmas.Bool.Decides.{nat_tests}
use Rattle.std.proofs.lemmas.Int.{ints}
use Rattle.std.proofs.lemmas.Grind.{flat_map-append}
use Rattle.std.proofs.lemmas.List.{take-append-drop, drop-drop, length-take-le, length-drop, take_at, drop_at}
use Rattle.std.proofs.lemmas.List.Folds.{flat_map-map}
use Rattle.nd_model.specs.Indexing.Advanced.{Take, source, chosen_source}
use Rattle.nd_model.specs.Arrays.Strides.{way_to, begins_at, places_by, is_held, are_held, parts_fault}
use Rattle.nd_model.specs.Arrays.Tuple.{count_up, indices, number}
use Rattle.nd_model.specs.Arrays.View.{Geo, item_size, place_of}
use Rattle.nd_view.specs.Indexes.{IsIndex}
use Rattle.nd_view.proofs.Extents.{bounds}
use Rattle.nd_view.proofs.Indexed.{of_all, same_indexes}
use Rattle.nd_view.proofs.Made.{facts, axes}
use Rattle.nd_view.proofs.Numbered.{at_tuple}
use Rattle.nd_view.proofs.Steps.{length-index}
use Rattle.nd_view.proofs.Tuples.{map-map, map-flat_map, flat_map_same}
use Rattle.nd_index.specs.Advanced.Takes.{axes_taken, kept_in}
use Rattle.nd_index.specs.Advanced.TakenWays.{kept_strides, way_taken}
use Rattle.nd_index.specs.Offsets.Ways.{ways}
use Rattle.nd_places.specs.Near.{place_on}
use Rattle.nd_index.proofs.offsets.Sums.{way_append, way_take, each_index}
use Rattle.nd_index.proofs.advanced.Spreads.{way_source}

-- ---- the tuples of axes one behind the other

flat_map-flat_map : {A B X : Type 0} (f : B → List X) (g : A → List B) (xs : List A) → flat_map f (flat_map g xs) ≡ flat_map (λ x. flat_map f (g x)) xs
flat_map-flat_map f g [] = refl
flat_map-flat_map f g (x ∷ xs) = flat_map-append f (g x) (flat_map g xs) ∙ ap (λ l. flat_map f (g x) ++ l) (flat_map-flat_map f g xs)

pieces_same : {X : Type 0} (g h : ℕ → List X) (from n : ℕ) → ((i : ℕ) → i < from + n → g i ≡ h i) → flat_map g (count_up from n) ≡ flat_map h (count_up from n)
pieces_same g h from zero same = refl
pieces_same g h from (suc n) same =
    (λ k. same from (omega arith) k ++ flat_map g (count_up (from + 1) n)) ∙ ap (λ zs. h from ++ zs) (pieces_same g h (from + 1) n (λ i lt. same i (omega arith)))

nested : {X : Type 0} (a b : List ℕ) (f : List ℕ → X) (h : List ℕ → List X) → ((t : List ℕ) → IsIndex a t → map (λ u. f (t ++ u)) (indices b) ≡ h t)
    → map f (indices (a ++ b)) ≡ flat_map h (indices a)
nested [] b f h same = same [] tt ∙ sym (append-nil (h []))
nested {X} (n ∷ a) b f h same =
    map-flat_map f (λ i. map (λ t. i ∷ t) (indices (a ++ b))) (count_up 0 n)
    ∙ flat_map_same (λ i. map f (map (λ t. i ∷ t) (indices (a ++ b)))) (λ i. map (λ t. f (i ∷ t)) (indices (a ++ b))) (λ i. map-map f (λ t. i ∷ t) (indices (a ++ b))) (count_up 0 n)
    ∙ pieces_same (λ i. map (λ t. f (i ∷ t)) (indices (a ++ b))) (λ i. flat_map (λ t. h (i ∷ t)) (indices a)) 0 n
    (λ i lt. nested a b (λ t. f (i ∷ t)) (λ t. h (i ∷ t)) (λ t is. same (i ∷ t) (omega (arith, lt), is)))
    ∙ sym (flat_map-flat_map h (λ i. map (λ t. i ∷ t) (indices a)) (count_up 0 n)
    ∙ flat_map_same (λ i. flat_map h (map (λ t. i ∷ t) (indices a))) (λ i. flat_map (λ t. h (i ∷ t)) (indices a)) (λ i. flat_map-map h (λ t. i ∷ t) (indices a)) (count_up 0 n))

pub nested_twice : {X : Type 0} (a b c : List ℕ) (f : List ℕ → X) (g : (t m u : List ℕ) → X) → ((t m u : List ℕ) → IsIndex a t → IsIndex b m → IsIndex c u → f (t ++ (m ++ u)) ≡ g t m u)
    → map f (indices (a ++ (b ++ c))) ≡ flat_map (λ t. flat_map (λ m. map (g t m) (indices c)) (indices b)) (indices a)
nested_twice a b c f g same =
    nested a (b ++ c) f (λ t. flat_map (λ m. map (g t m) (indices c)) (indices b))
    (λ t is. nested b c (λ v. f (t ++ v)) (λ m. map (g t m) (indices c))
    (λ m im. same_indexes (λ u. f (t ++ (m ++ u))) (g t m) c (λ u iu. same t m u is im iu)))

index_append : (a b t u : List ℕ) → IsIndex a t → IsIndex b u → IsIndex (a ++ b) (t ++ u)
index_append [] b [] u h k = k
index_append [] b (i ∷ t) u h k = absurd h
index_append (n ∷ a) b [] u h k = absurd h
index_append (n ∷ a) b (i ∷ t) u h k = (h.0, index_append a b t u h.1 k)

-- ---- places

pub on_place : (z : ℤ) → pos 0 ≤ℤ z → z <ℤ pos (2 ^ 64) → place_on z ≡ unsigned_abs z
on_place z low high = let tests : (int_le (pos 0) z && int_lt z (pos (2 ^ 64))) ≡ true = grind (arith, ints, nat_tests) in rw tests refl

three : (o w x y : ℤ) → o +ℤ (w +ℤ (x +ℤ y)) ≡ ((o +ℤ x) +ℤ w) +ℤ y
three o w x y = omega (arith, ints)

-- a view of these parts, and what is taken of its axes
module _ (h : Geo) (strides : List ℤ) (some : 0 < item_size h.element)
    (held : parts_fault (item_size h.element) h.shape strides (get_or h.places 0 0) (2 ^ 64) ≡ None)
    (by : h.places ≡ places_by (get_or h.places 0 0) strides h.shape)
    (ts : List Take) (taken : axes_taken ts ≡ length h.shape) where
  abbrev first : ℕ
  first = get_or h.places 0 0

  all : are_held (item_size h.element) (2 ^ 64) first strides h.shape ≡ true
  all = (facts (item_size h.element) h.shape strides first (2 ^ 64) held).2

  pub same_axes : length strides ≡ length h.shape
  same_axes = axes (item_size h.element) h.shape strides first (2 ^ 64) held

  at_place : (u : List ℕ) → IsIndex h.shape u → (place_of h u ≡ place_on (pos first +ℤ way_to u strides)) × (place_of h u + item_size h.element ≤ 2 ^ 64)
  at_place u is =
      let z : ℤ = begins_at first strides u in
      let b = bounds (item_size h.element) (2 ^ 64) z (of_all (is_held (item_size h.element) (2 ^ 64)) (begins_at first strides) h.shape u all is) in
      let here : place_of h u ≡ unsigned_abs z = ap (λ ps. get_or ps (number h.shape u) 0) by ∙ at_tuple first strides h.shape u is in
      let below : z <ℤ pos (2 ^ 64) = omega (arith, ints, b.0, b.1, some) in
      (here ∙ sym (on_place z b.0 below), omega (arith, here, b.1))

  module _ (at axes : ℕ) (shape : List ℕ) (kept : kept_in ts + axes ≡ length shape) (le : at ≤ kept_in ts)
      (tuples : (t : List ℕ) → IsIndex shape t → IsIndex h.shape (chosen_source ts h.shape at axes t)) where
    abbrev pub lengths_before : List ℕ
    lengths_before = take at shape

    abbrev pub lengths_of_arrays : List ℕ
    lengths_of_arrays = take axes (drop at shape)

    abbrev pub lengths_behind : List ℕ
    lengths_behind = drop (at + axes) shape

    split : lengths_before ++ (lengths_of_arrays ++ lengths_behind) ≡ shape
    split = ap (λ l. take at shape ++ (take axes (drop at shape) ++ l)) (sym (drop-drop axes at shape))
        ∙ ap (λ l. take at shape ++ l) (take-append-drop axes (drop at shape)) ∙ take-append-drop at shape

    abbrev steps : List ℤ
    steps = kept_strides ts strides

    abbrev chosen_place : List ℕ → ℕ
    chosen_place t = place_of h (chosen_source ts h.shape at axes t)

    abbrev sum_place : (t m u : List ℕ) → ℕ
    sum_place t m u = place_on (((pos first +ℤ way_to t (take at steps)) +ℤ way_taken ts h.shape strides m) +ℤ way_to u (drop at steps))

    module _ (t m u : List ℕ) (it : IsIndex lengths_before t) (im : IsIndex lengths_of_arrays m) (iu : IsIndex lengths_behind u) where
      long_before : length t ≡ at
      long_before = length-index (take at shape) t it ∙ length-take-le at shape (omega (arith, kept, le))

      long_arrays : length m ≡ axes
      long_arrays = length-index (take axes (drop at shape)) m im ∙ length-take-le axes (drop at shape) (omega (arith, length-drop at shape, kept, le))

      long_behind : at + length u ≡ kept_in ts
      long_behind = omega (arith, length-index (drop (at + axes) shape) u iu, length-drop (at + axes) shape, kept, le)

      abbrev v : List ℕ
      v = t ++ (m ++ u)

      parts : chosen_source ts h.shape at axes v ≡ source ts h.shape m (t ++ u)
      parts =
          let a : take at (t ++ (m ++ u)) ≡ t = take_at t (m ++ u) at long_before in
          let b : drop at (t ++ (m ++ u)) ≡ m ++ u = drop_at t (m ++ u) at long_before in
          let c : take axes (drop at (t ++ (m ++ u))) ≡ m = ap (take axes) b ∙ take_at m u axes long_arrays in
          let d : drop (at + axes) (t ++ (m ++ u)) ≡ u = sym (drop-drop axes at (t ++ (m ++ u))) ∙ ap (drop axes) b ∙ drop_at m u axes long_arrays in
          λ i. source ts h.shape (c i) (a i ++ d i)

      is_source : IsIndex h.shape (source ts h.shape m (t ++ u))
      is_source = subst (IsIndex h.shape) parts (tuples v (subst (λ s. IsIndex s v) split (index_append lengths_before (lengths_of_arrays ++ lengths_behind) t (m ++ u) it (index_append lengths_of_arrays lengths_behind m u im iu))))

      way : way_to (source ts h.shape m (t ++ u)) strides ≡ way_taken ts h.shape strides m +ℤ (way_to t (take at steps) +ℤ way_to u (drop at steps))
      way =
          way_source m ts h.shape strides (t ++ u) taken same_axes (length-append t u ∙ omega (arith, long_before, long_behind))
          ∙ ap (λ z. way_taken ts h.shape strides m +ℤ z) (way_append t u steps
          ∙ (λ i. sym (way_take at t steps (omega (arith, long_before))) i +ℤ way_to u (drop (long_before i) steps)))

      placed_at : chosen_place v ≡ sum_place t m u
      placed_at =
          ap (place_of h) parts ∙ (at_place (source ts h.shape m (t ++ u)) is_source).0
          ∙ ap (λ z. place_on (pos first +ℤ z)) way
          ∙ ap place_on (three (pos first) (way_taken ts h.shape strides m) (way_to t (take at steps)) (way_to u (drop at steps)))

    pub limit : All (λ p. p + item_size h.element ≤ 2 ^ 64) (map chosen_place (indices shape))
    limit = each_index (λ p. p + item_size h.element ≤ 2 ^ 64) chosen_place shape (λ t is. (at_place (chosen_source ts h.shape at axes t) (tuples t is)).1)

    pub placed : flat_map (λ b. flat_map (λ a. map (λ z. place_on (((pos first +ℤ b) +ℤ a) +ℤ z)) (ways lengths_behind (drop at steps))) (map (way_taken ts h.shape strides) (indices lengths_of_arrays)))
        (ways lengths_before (take at steps)) ≡ map chosen_place (indices shape)
    placed =
        let row : ℤ → ℤ → List ℕ = λ b a. map (λ z. place_on (((pos first +ℤ b) +ℤ a) +ℤ z)) (ways lengths_behind (drop at steps)) in
        flat_map-map (λ b. flat_map (row b) (map (way_taken ts h.shape strides) (indices lengths_of_arrays))) (λ t. way_to t (take at steps)) (indices lengths_before)
        ∙ flat_map_same (λ t. flat_map (row (way_to t (take at steps))) (map (way_taken ts h.shape strides) (indices lengths_of_arrays)))
        (λ t. flat_map (λ m. map (sum_place t m) (indices lengths_behind)) (indices lengths_of_arrays))
        (λ t. flat_map-map (row (way_to t (take at steps))) (way_taken ts h.shape strides) (indices lengths_of_arrays)
        ∙ flat_map_same (λ m. row (way_to t (take at steps)) (way_taken ts h.shape strides m)) (λ m. map (sum_place t m) (indices lengths_behind))
        (λ m. map-map (λ z. place_on (((pos first +ℤ way_to t (take at steps)) +ℤ way_taken ts h.shape strides m) +ℤ z)) (λ u. way_to u (drop at steps)) (indices lengths_behind)) (indices lengths_of_arrays))
        (indices lengths_before)
        ∙ sym (nested_twice lengths_before lengths_of_arrays lengths_behind chosen_place sum_place placed_at)
        ∙ ap (λ s. map chosen_place (indices s)) split
