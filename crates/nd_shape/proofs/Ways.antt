-- One axis further on the loops over the strides of a shape.
use Rattle.std.proofs.Common.{◌≡◌, ℕ, zero, suc, ◌+◌, ◌/◌, ◌%◌, ◌<◌, ◌≤◌, ◌&&◌, List, [], ◌∷◌, ◌++◌, length, get_or, drop, sym, ap, ◌∙◌, arith, add-one, drop-cons}
use Rattle.std.specs.Prelude.{ℤ, pos, ◌+ℤ◌, ◌*ℤ◌}
use Rattle.std.proofs.Math.Nat.{mul-div_cancel_left}
use Rattle.std.proofs.lemmas.Int.{ints}
use Rattle.nd_model.specs.Arrays.Tuple.{elements_of}
use Rattle.nd_view.proofs.Counts.{factor, rest_some}
use Rattle.nd_shape.specs.Reshapes.{way_of, steps_for, is_met, are_met}
use Rattle.nd_shape.proofs.Pushed.{joined}

-- the axis of a loop
pub record OnAxis (shape : List ℕ) (k each : ℕ) : Type 0 where
  pub some : 0 < get_or shape k 0
  pub below : get_or shape k 0 ≤ elements_of shape
  pub next : each / get_or shape k 0 ≡ elements_of (drop (k + 1) shape)
  pub many : 0 < each / get_or shape k 0

first_of : (shape : List ℕ) (k : ℕ) → k < length shape → drop k shape ≡ get_or shape k 0 ∷ drop (k + 1) shape
first_of shape k lt = rw add-one (drop-cons shape k 0 lt)

first_step : (ss : List ℤ) (k : ℕ) → k < length ss → drop k ss ≡ get_or ss k (pos 0) ∷ drop (k + 1) ss
first_step ss k lt = rw add-one (drop-cons ss k (pos 0) lt)

some_left : (shape : List ℕ) (k : ℕ) → 0 < elements_of shape → 0 < elements_of (drop k shape)
some_left shape zero some = some
some_left [] (suc k) some = some
some_left (n ∷ shape) (suc k) some = some_left shape k (rest_some n (elements_of shape) some)

pub on_axis : (shape : List ℕ) (k each : ℕ) → k < length shape → 0 < elements_of shape → each ≡ elements_of (drop k shape) → OnAxis shape k each
on_axis shape k each lt some e =
    let f = factor shape k 0 some lt in
    let next : each / get_or shape k 0 ≡ elements_of (drop (k + 1) shape)
    = ap (λ m. m / get_or shape k 0) (e ∙ ap elements_of (first_of shape k lt)) ∙ mul-div_cancel_left (elements_of (drop (k + 1) shape)) f.0 in
    record { some = f.0; below = f.1; next = next; many = rw next (some_left shape (k + 1) some) }

pub way_next : (shape : List ℕ) (ss : List ℤ) (k each f : ℕ) (way step whole : ℤ) → k < length shape → k < length ss → each ≡ elements_of (drop (k + 1) shape)
    → step ≡ pos (f / each % get_or shape k 0) *ℤ get_or ss k (pos 0) → way +ℤ way_of (drop k shape) (drop k ss) f ≡ whole
    → (way +ℤ step) +ℤ way_of (drop (k + 1) shape) (drop (k + 1) ss) f ≡ whole
way_next shape ss k each f way step whole lt lt' e is so_far =
    let rest : ℤ = way_of (drop (k + 1) shape) (drop (k + 1) ss) f in
    let n : ℕ = get_or shape k 0 in
    let s : ℤ = get_or ss k (pos 0) in
    (λ i. (way +ℤ is i) +ℤ rest) ∙ (λ i. (way +ℤ (pos (f / e i % n) *ℤ s)) +ℤ rest) ∙ regroup way (pos (f / elements_of (drop (k + 1) shape) % n) *ℤ s) rest
    ∙ (λ i. way +ℤ way_of (sym (first_of shape k lt) i) (sym (first_step ss k lt') i) f) ∙ so_far
  where
    regroup : (a b c : ℤ) → (a +ℤ b) +ℤ c ≡ a +ℤ (b +ℤ c)
    regroup a b c = omega (arith, ints)

pub way_first : (way whole : ℤ) → way ≡ pos 0 → pos 0 +ℤ whole ≡ whole
way_first way whole e = omega (arith, ints)

pub steps_next : (q : ℕ → ℤ) (to : List ℕ) (k each : ℕ) (items new : List ℤ) (v : ℤ) → k < length to → each ≡ elements_of (drop (k + 1) to) → v ≡ q each → new ≡ items ++ v ∷ []
    → items ++ steps_for q (drop k to) ≡ steps_for q to → new ++ steps_for q (drop (k + 1) to) ≡ steps_for q to
steps_next q to k each items new v lt e is made so_far =
    joined items new (steps_for q (drop (k + 1) to)) (steps_for q to) v made
    ((λ i. items ++ (is ∙ ap q e) i ∷ steps_for q (drop (k + 1) to)) ∙ (λ i. items ++ steps_for q (sym (first_of to k lt) i)) ∙ so_far)

pub met_next : (q : ℕ → ℤ) (shape : List ℕ) (ss : List ℤ) (k each : ℕ) → k < length shape → k < length ss → each ≡ elements_of (drop (k + 1) shape)
    → are_met q (drop k shape) (drop k ss) ≡ (is_met (get_or shape k 0) (get_or ss k (pos 0)) (q each) && are_met q (drop (k + 1) shape) (drop (k + 1) ss))
met_next q shape ss k each lt lt' e =
    (λ i. are_met q (first_of shape k lt i) (first_step ss k lt' i)) ∙ (λ i. is_met (get_or shape k 0) (get_or ss k (pos 0)) (q (sym e i)) && are_met q (drop (k + 1) shape) (drop (k + 1) ss))
