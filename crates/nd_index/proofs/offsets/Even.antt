-- Axes that are walked by one step: the offset of element k is k steps.
use Rattle.std.proofs.Common.{◌≡◌, ℕ, zero, suc, ◌+◌, ◌*◌, ◌/◌, ◌%◌, ◌<◌, List, [], ◌∷◌, length, drop, get_or, refl, sym, ap, ◌∙◌, inl, inr, arith}
use Rattle.std.specs.Prelude.{ℤ, pos, negsuc, ◌+ℤ◌, ◌*ℤ◌}
use Rattle.std.proofs.Math.Nat.{mod-lt, mod_self, mod-eq_of_lt, div_self, div-eq_of_lt, div-lt_iff_lt-mul, div-add-mod}
use Rattle.std.proofs.lemmas.Bool.{cases_lt}
use Rattle.std.proofs.lemmas.Int.{ints}
use Rattle.nd_model.specs.Indexing.Advanced.{unravelled}
use Rattle.nd_model.specs.Arrays.Strides.{way_to}
use Rattle.nd_model.specs.Arrays.Tuple.{elements_of}
use Rattle.nd_index.specs.Offsets.Ways.{IsEvenBy}
use Rattle.nd_index.proofs.offsets.Numbers.{parts_few}
use Rattle.nd_index.proofs.offsets.Sums.{zero_way}

-- the stride of this axis is so many steps as there are elements behind each of its indices
abbrev pub IsStep : ℤ → List ℕ → List ℤ → ℕ → Type 0
IsStep step shape strides j = get_or strides j (pos 0) ≡ pos (elements_of (drop (suc j) shape)) *ℤ step

-- so it is with all axes that are longer than 1
abbrev pub AreSteps : ℤ → List ℕ → List ℤ → Type 0
AreSteps step shape strides = (j : ℕ) → j < length shape → 1 < get_or shape j 0 → IsStep step shape strides j

-- ---- strides that are steps

spread : (i k c : ℕ) (z : ℤ) → (pos i *ℤ (pos c *ℤ z)) +ℤ (pos k *ℤ z) ≡ pos (i * c + k) *ℤ z
spread i k c (pos m) = omega (arith, ints)
spread i k zero (negsuc m) = let none : pos 0 *ℤ negsuc m ≡ pos 0 = omega (arith, ints) in let few : i * 0 + k ≡ k = omega arith in rw (none, few) (omega (arith, ints))
spread i k (suc c) (negsuc m) = let below : pos (suc c) *ℤ negsuc m ≡ negsuc (c * suc m + m) = omega (arith, ints) in rw below (omega (arith, ints))

-- an axis and those behind it
axis_more : (k e : ℕ) (s rest step : ℤ) → pos (k / e) *ℤ s ≡ pos (k / e) *ℤ (pos e *ℤ step) → rest ≡ pos (k % e) *ℤ step → (pos (k / e) *ℤ s) +ℤ rest ≡ pos k *ℤ step
axis_more k e s rest step first behind =
    let whole : (k / e) * e + k % e ≡ k = omega (arith, div-add-mod k e) in
    (λ i. first i +ℤ behind i) ∙ spread (k / e) (k % e) e step ∙ ap (λ m. pos m *ℤ step) whole

inner_even : (shape : List ℕ) (strides : List ℤ) (step : ℤ) → length strides ≡ length shape → 0 < elements_of shape → AreSteps step shape strides
    → (k : ℕ) → k < elements_of shape → way_to (unravelled shape k) strides ≡ pos k *ℤ step
inner_even [] strides step same some steps k lt = let none : k ≡ 0 = omega (arith, lt) in rw none (omega (arith, ints))
inner_even (n ∷ shape) [] step same some steps k lt = absurd (omega (arith, same))
inner_even (n ∷ shape) (s ∷ strides) step same some steps k lt =
    let e : ℕ = elements_of shape in
    let parts = parts_few n e (n * e) refl some in
    let first : pos (k / e) *ℤ s ≡ pos (k / e) *ℤ (pos e *ℤ step) = elim (cases_lt 1 n) [
      | inl long ↦ ap (λ z. pos (k / e) *ℤ z) (steps 0 (omega arith) long)
      | inr short ↦
          let below : k / e < n = (div-lt_iff_lt-mul parts.1.0).1 lt in
          let none : k / e ≡ 0 = omega (arith, below, short) in
          rw none (omega (arith, ints))
    ] in
    axis_more k e s (way_to (unravelled shape (k % e)) strides) step first
    (inner_even shape strides step (omega (arith, same)) parts.1.0 (λ j lt long. steps (suc j) (omega (arith, lt)) long) (k % e) (mod-lt k parts.1.0))

-- the first axis may be walked on, behind the last element
pub even_by : (shape : List ℕ) (strides : List ℤ) (step : ℤ) → length strides ≡ length shape → 0 < elements_of shape → step ≡ way_to (unravelled shape 1) strides
    → (0 < length shape → IsStep step shape strides 0) → AreSteps step shape strides → IsEvenBy step shape strides
even_by [] strides step same some at first steps k = rw at (omega (arith, ints))
even_by (n ∷ shape) [] step same some at first steps k = absurd (omega (arith, same))
even_by (n ∷ shape) (s ∷ strides) step same some at first steps k =
    let e : ℕ = elements_of shape in
    let parts = parts_few n e (n * e) refl some in
    axis_more k e s (way_to (unravelled shape (k % e)) strides) step (ap (λ z. pos (k / e) *ℤ z) (first (omega arith)))
    (inner_even shape strides step (omega (arith, same)) parts.1.0 (λ j lt long. steps (suc j) (omega (arith, lt)) long) (k % e) (mod-lt k parts.1.0))

-- ---- steps that are strides

-- fewer elements are behind an axis that is longer than 1
fewer : (shape : List ℕ) (j : ℕ) → j < length shape → 0 < elements_of shape → 1 < get_or shape j 0 → elements_of (drop (suc j) shape) < elements_of shape
fewer [] j lt some long = absurd (omega (arith, lt))
fewer (zero ∷ shape) j lt some long = absurd (omega (arith, some))
fewer (suc zero ∷ shape) zero lt some long = absurd (omega (arith, long))
fewer (suc (suc n) ∷ shape) zero lt some long = let parts = parts_few (suc (suc n)) (elements_of shape) (suc (suc n) * elements_of shape) refl some in omega (arith, parts.1.0)
fewer (suc n ∷ shape) (suc j) lt some long =
    let parts = parts_few (suc n) (elements_of shape) (suc n * elements_of shape) refl some in
    omega (arith, parts.1.1, fewer shape j (omega (arith, lt)) parts.1.0 long)

one_more : (s z : ℤ) → z ≡ pos 0 → (pos 1 *ℤ s) +ℤ z ≡ s
one_more s z none = omega (arith, ints, none)

none_more : (s z : ℤ) → (pos 0 *ℤ s) +ℤ z ≡ z
none_more s z = omega (arith, ints)

-- the element at index 1 of the first axis, and at that of an axis that is longer
first_unit : (shape : List ℕ) (strides : List ℤ) → 0 < length shape → length strides ≡ length shape → 0 < elements_of shape
    → way_to (unravelled shape (elements_of (drop (suc 0) shape))) strides ≡ get_or strides 0 (pos 0)
first_unit [] strides lt same some = absurd (omega (arith, lt))
first_unit (n ∷ shape) [] lt same some = absurd (omega (arith, same))
first_unit (n ∷ shape) (s ∷ strides) lt same some =
    let parts = parts_few n (elements_of shape) (n * elements_of shape) refl some in
    let one : elements_of shape / elements_of shape ≡ 1 = div_self parts.1.0 in
    rw (one, mod_self (elements_of shape)) (one_more s (way_to (unravelled shape 0) strides) (zero_way shape strides))

unit : (shape : List ℕ) (strides : List ℤ) (j : ℕ) → j < length shape → length strides ≡ length shape → 0 < elements_of shape → 1 < get_or shape j 0
    → way_to (unravelled shape (elements_of (drop (suc j) shape))) strides ≡ get_or strides j (pos 0)
unit shape strides zero lt same some long = first_unit shape strides lt same some
unit [] strides (suc j) lt same some long = absurd (omega (arith, lt))
unit (n ∷ shape) [] (suc j) lt same some long = absurd (omega (arith, same))
unit (n ∷ shape) (s ∷ strides) (suc j) lt same some long =
    let parts = parts_few n (elements_of shape) (n * elements_of shape) refl some in
    let k : ℕ = elements_of (drop (suc j) shape) in
    let below : k < elements_of shape = fewer shape j (omega (arith, lt)) parts.1.0 long in
    let none : k / elements_of shape ≡ 0 = div-eq_of_lt below in
    let all : k % elements_of shape ≡ k = mod-eq_of_lt below in
    let behind = unit shape strides j (omega (arith, lt)) (omega (arith, same)) parts.1.0 long in
    (λ i. (pos (none i) *ℤ s) +ℤ way_to (unravelled shape (all i)) strides) ∙ none_more s (way_to (unravelled shape k) strides) ∙ behind

-- so the strides of even axes are steps
pub step_first : (shape : List ℕ) (strides : List ℤ) (step : ℤ) → length strides ≡ length shape → 0 < elements_of shape → IsEvenBy step shape strides
    → 0 < length shape → IsStep step shape strides 0
step_first shape strides step same some even lt = sym (first_unit shape strides lt same some) ∙ even (elements_of (drop (suc 0) shape))

pub steps_inner : (shape : List ℕ) (strides : List ℤ) (step : ℤ) → length strides ≡ length shape → 0 < elements_of shape → IsEvenBy step shape strides
    → AreSteps step shape strides
steps_inner shape strides step same some even j lt long = sym (unit shape strides j lt same some long) ∙ even (elements_of (drop (suc j) shape))

-- and the step is the way to element 1
pub step_one : (shape : List ℕ) (strides : List ℤ) (step : ℤ) → IsEvenBy step shape strides → way_to (unravelled shape 1) strides ≡ step
step_one shape strides step even = even 1 ∙ once_more step
  where
    once_more : (z : ℤ) → pos 1 *ℤ z ≡ z
    once_more z = omega (arith, ints)
