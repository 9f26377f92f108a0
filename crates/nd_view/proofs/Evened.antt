-- Axes that are walked as one: the elements behind an index of the outer axes are one step apart.
use Rattle.std.proofs.Common.{◌≡◌, ℕ, zero, suc, ◌+◌, ◌-◌, ◌*◌, ◌<◌, ◌≤◌, ◌^◌, true, false, List, [], ◌∷◌, length, take, drop, replicate, get_or, refl, sym, ap, ◌∙◌, inl, inr, arith, drop-cons, length-take, length-drop}
use Rattle.std.specs.Prelude.{ℤ, pos, negsuc, ◌+ℤ◌, ◌*ℤ◌, ◌≤ℤ◌, ◌&&◌, nat_lt, nat_le, unsigned_abs, if◌then◌else◌}
use Rattle.std.proofs.lemmas.Bool.{cases_lt}
use Rattle.std.proofs.lemmas.Bool.Decides.{nat_tests}
use Rattle.std.proofs.lemmas.Grind.{same_number_lists}
use Rattle.std.proofs.lemmas.Int.{ints}
use Rattle.std.proofs.lemmas.List.{length-map, get_or-map, get_or-take, get_or-drop}
use Rattle.nd_model.specs.Arrays.Runs as runs
use Rattle.nd_model.specs.Arrays.Strides.{way_to, places_by}
use Rattle.nd_model.specs.Arrays.Tuple.{count_up, elements_of, number}
use Rattle.nd_view.specs.Indexes.{IsIndex}
use Rattle.nd_view.specs.Strides.{IsEven, AreJoined, joined_step}
use Rattle.nd_view.specs.Walks.{AreSteps}
use Rattle.nd_view.proofs.Extents.{Lies}
use Rattle.nd_view.proofs.Numbered.{tuple_of, tuple_is}
use Rattle.nd_view.proofs.Offsets.{no_way}
use Rattle.nd_view.proofs.Split.{parts_place, parts_end}
use Rattle.nd_view.proofs.Steps.{number-below, zeros}
use Rattle.nd_view.proofs.Tuples.{length-count_up, get_or-count_up}

-- no axis, and one axis
pub even_none : (step : ℤ) → IsEven [] [] step
even_none step [] is = omega (arith, ints)
even_none step (i ∷ t) is = absurd is

pub even_one : (n : ℕ) (s : ℤ) → IsEven (n ∷ []) (s ∷ []) s
even_one n s [] is = absurd is
even_one n s (i ∷ []) is = let one : i * 1 + 0 ≡ i = omega arith in rw one (omega (arith, ints))
even_one n s (i ∷ j ∷ t) is = absurd is.1

-- no elements
pub even_empty : (shape : List ℕ) (strides : List ℤ) (step : ℤ) → elements_of shape ≡ 0 → IsEven shape strides step
even_empty shape strides step none t is = absurd (omega (arith, number-below shape t is, none))

-- an axis more
pub even_more : (n : ℕ) (shape : List ℕ) (s : ℤ) (strides : List ℤ) (count : ℕ) (step : ℤ) → count ≡ elements_of shape → AreJoined n s count step → IsEven shape strides step
    → IsEven (n ∷ shape) (s ∷ strides) (joined_step n s count step)
even_more n shape s strides count step same joined even [] is = absurd is
even_more n shape s strides count step same joined even (i ∷ t) is =
    ap (λ z. (pos i *ℤ s) +ℤ z) (even t is.1) ∙ joined i (number shape t) is.0 (omega (arith, number-below shape t is.1, same))
    ∙ ap (λ m. pos (i * m + number shape t) *ℤ joined_step n s count step) same

pub even_before : (shape : List ℕ) (strides : List ℤ) (m count : ℕ) (step : ℤ) → 0 < m → m ≤ length shape → length strides ≡ length shape → count ≡ elements_of (drop m shape)
    → AreJoined (get_or shape (m - 1) 0) (get_or strides (m - 1) (pos 0)) count step → IsEven (drop m shape) (drop m strides) step
    → IsEven (drop (m - 1) shape) (drop (m - 1) strides) (joined_step (get_or shape (m - 1) 0) (get_or strides (m - 1) (pos 0)) count step)
even_before shape strides zero count step some le same all joined even = absurd (omega arith)
even_before shape strides (suc m) count step some le same all joined even =
    let back : suc m - 1 ≡ m = omega arith in
    let next = even_more (get_or shape m 0) (drop (suc m) shape) (get_or strides m (pos 0)) (drop (suc m) strides) count step all (rw back at joined) even in
    rw (back, drop-cons shape m 0 (omega arith), drop-cons strides m (pos 0) (omega (arith, same))) next

pub count_before : (shape : List ℕ) (m count : ℕ) → 0 < m → m ≤ length shape → count ≡ elements_of (drop m shape) → count * get_or shape (m - 1) 0 ≡ elements_of (drop (m - 1) shape)
count_before shape zero count some le all = absurd (omega arith)
count_before shape (suc m) count some le all =
    let back : suc m - 1 ≡ m = omega arith in
    rw (back, drop-cons shape m 0 (omega arith), all) (omega arith)

-- when one step leads through an axis and those behind it
pub joined_short : (n count : ℕ) (s step : ℤ) → n ≤ 1 → AreJoined n s count step
joined_short n count s step short =
    let test : nat_lt 1 n ≡ false = grind (arith, nat_tests) in
    λ i k lt few. let first : i ≡ 0 = omega arith in let at : i * count + k ≡ k = rw first (omega arith) in
    rw (test, at, first) (omega (arith, ints))

pub joined_alone : (n count : ℕ) (s step : ℤ) → count ≤ 1 → AreJoined n s count step
joined_alone n count s step alone = elim (cases_lt 1 n) [
  | inl long ↦
      let test : nat_lt 1 n ≡ true = grind (arith, nat_tests) in let few : nat_le count 1 ≡ true = grind (arith, nat_tests) in
      λ i k lt below. let first : k ≡ 0 = omega arith in let one : count ≡ 1 = omega arith in let at : i * 1 + 0 ≡ i = omega arith in
      rw (test, few, first, one, at) (omega (arith, ints))
  | inr short ↦ joined_short n count s step (omega arith)
]

pub joined_even : (n count : ℕ) (s step : ℤ) → 1 < count → pos count *ℤ step ≡ s → AreJoined n s count step
joined_even n count s step many same =
    let few : nat_le count 1 ≡ false = grind (arith, nat_tests) in
    elim (nat_lt 1 n) as (λ b. (i k : ℕ) → i < n → k < count → (pos i *ℤ s) +ℤ (pos k *ℤ step) ≡ pos (i * count + k) *ℤ (if b && nat_le count 1 then s else step)) [
      | true ↦ λ i k lt below. rw few (whole i k)
      | false ↦ λ i k lt below. whole i k
    ]
  where
    spread : (i k c : ℕ) (z : ℤ) → (pos i *ℤ (pos c *ℤ z)) +ℤ (pos k *ℤ z) ≡ pos (i * c + k) *ℤ z
    spread i k c (pos m) = omega (arith, ints)
    spread i k zero (negsuc m) = let none : pos 0 *ℤ negsuc m ≡ pos 0 = omega (arith, ints) in let few : i * 0 + k ≡ k = omega arith in rw (none, few) (omega (arith, ints))
    spread i k (suc c) (negsuc m) = let below : pos (suc c) *ℤ negsuc m ≡ negsuc (c * suc m + m) = omega (arith, ints) in rw below (omega (arith, ints))

    whole : (i k : ℕ) → (pos i *ℤ s) +ℤ (pos k *ℤ step) ≡ pos (i * count + k) *ℤ step
    whole i k = ap (λ z. (pos i *ℤ z) +ℤ (pos k *ℤ step)) (sym same) ∙ spread i k count step

-- where there is one element the step is kept
pub step_alone : (n count : ℕ) (s step : ℤ) → (count ≡ 1 → step ≡ pos 0) → count * n ≡ 1 → joined_step n s count step ≡ pos 0
step_alone n count s step kept one =
    let ones = factors count n one in let test : nat_lt 1 n ≡ false = grind (arith, nat_tests) in rw test (kept ones.0)
  where
    factors : (a b : ℕ) → a * b ≡ 1 → (a ≡ 1) × (b ≡ 1)
    factors zero b e = absurd (omega arith)
    factors (suc a) zero e = absurd (omega arith)
    factors (suc zero) (suc b) e = (refl, omega arith)
    factors (suc (suc a)) (suc b) e = absurd (omega arith)

-- the elements behind an index of the outer axes
module _ (size offset : ℕ) (shape : List ℕ) (strides : List ℤ) (same : length strides ≡ length shape) (lies : Lies size (2 ^ 64) shape strides offset) where
  -- the first one
  pub first : (t : List ℕ) → length t ≤ length shape → IsIndex (take (length t) shape) t → 0 < elements_of (drop (length t) shape)
      → pos (get_or (places_by offset strides shape) (number shape t) 0) ≡ pos offset +ℤ way_to t strides
  first t le is lt =
      let rest : List ℕ = drop (length t) shape in let u = zeros rest lt in
      let none : number shape t + number rest (replicate (length rest) 0) ≡ number shape t = omega (arith, u.1) in
      ap (λ m. pos (get_or (places_by offset strides shape) m 0)) (sym none)
      ∙ parts_place size offset shape strides same lies t (replicate (length rest) 0) le is u.0
      ∙ ap (λ z. (pos offset +ℤ way_to t strides) +ℤ z) (no_way (length rest) (drop (length t) strides)) ∙ omega (arith, ints)

  module _ (some : 0 < size) (t : List ℕ) (le : length t ≤ length shape) (is : IsIndex (take (length t) shape) t) (step : ℤ) (even : IsEven (drop (length t) shape) (drop (length t) strides) step) where
    at : (k : ℕ) → k < elements_of (drop (length t) shape) → pos (get_or (places_by offset strides shape) (number shape t + k) 0) ≡ (pos offset +ℤ way_to t strides) +ℤ (pos k *ℤ step)
    at k lt =
        let u = tuple_is (drop (length t) shape) k lt in
        ap (λ m. pos (get_or (places_by offset strides shape) (number shape t + m) 0)) (sym u.1)
        ∙ parts_place size offset shape strides same lies t (tuple_of (drop (length t) shape) k) le is u.0
        ∙ ap (λ z. (pos offset +ℤ way_to t strides) +ℤ z) (even (tuple_of (drop (length t) shape) k) u.0 ∙ ap (λ m. pos m *ℤ step) u.1)

    below : (k : ℕ) → k < elements_of (drop (length t) shape) → get_or (places_by offset strides shape) (number shape t + k) 0 < 2 ^ 64
    below k lt =
        let u = tuple_is (drop (length t) shape) k lt in
        let end = parts_end size offset shape strides same lies t (tuple_of (drop (length t) shape) k) le is u.0 in
        let here = ap (λ m. get_or (places_by offset strides shape) (number shape t + m) 0) (sym u.1) in
        omega (arith, end, here, some)

    pub steps_of : AreSteps (places_by offset strides shape) (number shape t) (elements_of (drop (length t) shape)) step
    steps_of k lt = (ap (λ z. z +ℤ (pos k *ℤ step)) (first t le is (omega arith)) ∙ sym (at k lt), below k lt)

-- a run of them
pub run_is : (places : List ℕ) (n count : ℕ) (step : ℤ) → AreSteps places n count step → n + count ≤ length places
    → runs.run_places (get_or places n 0) step count ≡ take count (drop n places)
run_is places n count step steps le =
    let start : ℕ = get_or places n 0 in
    let all : length (runs.run_places start step count) ≡ count = length-map (count_up 0 count) (runs.spot_at start step) ∙ length-count_up 0 count in
    let rest : length (take count (drop n places)) ≡ count = simp (length-take, length-drop) (omega arith) in
    same_number_lists (runs.run_places start step count) (take count (drop n places)) (all ∙ sym rest)
    (λ k below. let lt : k < count = omega (arith, all) in let in_order : k < length (count_up 0 count) = omega (arith, length-count_up 0 count) in
    get_or-map (runs.spot_at start step) (count_up 0 count) k 0 0 in_order ∙ ap (runs.spot_at start step) (get_or-count_up 0 count k 0 lt ∙ omega arith)
    ∙ ap unsigned_abs (steps k lt).0
    ∙ sym (get_or-take count (drop n places) k 0 lt ∙ get_or-drop n places k 0))

pub run_spots : (places : List ℕ) (n count : ℕ) (step : ℤ) → AreSteps places n count step
    → (k : ℕ) → k < count → (pos 0 ≤ℤ runs.place_at (get_or places n 0) step k) × (runs.spot_at (get_or places n 0) step k < 2 ^ 64)
run_spots places n count step steps k lt = rw (steps k lt).0 (omega (arith, ints), (steps k lt).1)
