-- Index tuples in two parts: the indexes of the outer axes, and those of the axes behind them.
use Rattle.std.proofs.Common.{◌≡◌, ℕ, zero, suc, ◌+◌, ◌*◌, ◌<◌, ◌≤◌, ◌^◌, List, [], ◌∷◌, ◌++◌, length, take, drop, get_or, refl, sym, ap, ◌∙◌, arith}
use Rattle.std.specs.Prelude.{ℤ, pos, negsuc, ◌+ℤ◌, ◌*ℤ◌, ◌≤ℤ◌, unsigned_abs}
use Rattle.std.proofs.Math.Nat.{mul-le-mul_right}
use Rattle.std.proofs.lemmas.Int.{ints}
use Rattle.nd_model.specs.Arrays.Strides.{way_to, begins_at, place_at, places_by}
use Rattle.nd_model.specs.Arrays.Tuple.{elements_of, number}
use Rattle.nd_view.specs.Indexes.{IsIndex}
use Rattle.nd_view.proofs.Counts.{rest_some}
use Rattle.nd_view.proofs.Extents.{Lies, reached}
use Rattle.nd_view.proofs.Numbered.{at_tuple}
use Rattle.nd_view.proofs.Steps.{number-below}

pub elements : (shape : List ℕ) (m : ℕ) → elements_of shape ≡ elements_of (take m shape) * elements_of (drop m shape)
elements shape zero = omega arith
elements [] (suc m) = omega arith
elements (n ∷ shape) (suc m) = ap (λ e. n * e) (elements shape m) ∙ omega arith

-- where there are elements, there are some behind each index of the outer axes, and no more than all
pub behind : (shape : List ℕ) (m : ℕ) → 0 < elements_of shape → (0 < elements_of (drop m shape)) × (elements_of (drop m shape) ≤ elements_of shape)
behind shape m some =
    let outer : ℕ = elements_of (take m shape) in let inner : ℕ = elements_of (drop m shape) in
    let below : 0 < inner = rest_some outer inner (omega (arith, some, elements shape m)) in
    (below, at_least outer inner (elements_of shape) some (elements shape m))
  where
    at_least : (a b c : ℕ) → 0 < c → c ≡ a * b → b ≤ c
    at_least zero b c lt e = absurd (omega arith)
    at_least (suc a) b c lt e = omega arith

pub parts_whole : (shape t u : List ℕ) → length t ≤ length shape → IsIndex (take (length t) shape) t → IsIndex (drop (length t) shape) u
    → IsIndex shape (t ++ u) × (number shape (t ++ u) ≡ number shape t + number (drop (length t) shape) u)
parts_whole [] [] u le is rest = (rest, omega arith)
parts_whole (n ∷ shape) [] u le is rest = (rest, omega arith)
parts_whole [] (i ∷ t) u le is rest = absurd (omega arith)
parts_whole (n ∷ shape) (i ∷ t) u le is rest =
    let r = parts_whole shape t u (omega arith) is.1 rest in ((is.0, r.0), omega (arith, r.1))

pub parts_way : (strides : List ℤ) (t u : List ℕ) → length t ≤ length strides → way_to (t ++ u) strides ≡ way_to t strides +ℤ way_to u (drop (length t) strides)
parts_way [] [] u le = omega (arith, ints)
parts_way (s ∷ strides) [] u le = omega (arith, ints)
parts_way [] (i ∷ t) u le = absurd (omega arith)
parts_way (s ∷ strides) (i ∷ t) u le = ap (λ z. (pos i *ℤ s) +ℤ z) (parts_way strides t u (omega arith)) ∙ omega (arith, ints)

pub number_outer : (shape t : List ℕ) → length t ≤ length shape → number shape t ≡ number (take (length t) shape) t * elements_of (drop (length t) shape)
number_outer [] [] le = omega arith
number_outer (n ∷ shape) [] le = omega arith
number_outer [] (i ∷ t) le = absurd (omega arith)
number_outer (n ∷ shape) (i ∷ t) le =
    let each = ap (λ e. i * e) (elements shape (length t)) in omega (arith, number_outer shape t (omega arith), each)

pub parts_inside : (shape t : List ℕ) → length t ≤ length shape → IsIndex (take (length t) shape) t → number shape t + elements_of (drop (length t) shape) ≤ elements_of shape
parts_inside shape t le is =
    let count : ℕ = elements_of (drop (length t) shape) in
    let more : number (take (length t) shape) t + 1 ≤ elements_of (take (length t) shape) = omega (arith, number-below (take (length t) shape) t is) in
    let row : (number (take (length t) shape) t + 1) * count ≤ elements_of (take (length t) shape) * count = mul-le-mul_right count more in
    omega (arith, row, number_outer shape t le, elements shape (length t))

pub of_low : (z : ℤ) → pos 0 ≤ℤ z → z ≡ pos (unsigned_abs z)
of_low (pos n) low = refl
of_low (negsuc n) low = absurd (omega (arith, ints, low))

-- an element by the two parts of its tuple
module _ (size offset : ℕ) (shape : List ℕ) (strides : List ℤ) (same : length strides ≡ length shape) (lies : Lies size (2 ^ 64) shape strides offset) where
  module _ (t u : List ℕ) (le : length t ≤ length shape) (is : IsIndex (take (length t) shape) t) (rest : IsIndex (drop (length t) shape) u) where
    here : get_or (places_by offset strides shape) (number shape t + number (drop (length t) shape) u) 0 ≡ place_at offset strides (t ++ u)
    here = let w = parts_whole shape t u le is rest in ap (λ m. get_or (places_by offset strides shape) m 0) (sym w.1) ∙ at_tuple offset strides shape (t ++ u) w.0

    pub parts_place : pos (get_or (places_by offset strides shape) (number shape t + number (drop (length t) shape) u) 0) ≡ (pos offset +ℤ way_to t strides) +ℤ way_to u (drop (length t) strides)
    parts_place =
        let w = parts_whole shape t u le is rest in let r = reached size (2 ^ 64) shape (t ++ u) strides offset same w.0 lies in
        ap pos here ∙ sym (of_low (begins_at offset strides (t ++ u)) r.0)
        ∙ ap (λ z. pos offset +ℤ z) (parts_way strides t u (omega (arith, le, same))) ∙ omega (arith, ints)

    pub parts_end : get_or (places_by offset strides shape) (number shape t + number (drop (length t) shape) u) 0 + size ≤ 2 ^ 64
    parts_end =
        let w = parts_whole shape t u le is rest in let r = reached size (2 ^ 64) shape (t ++ u) strides offset same w.0 lies in
        omega (arith, r.1, here)
