-- Where the first axes of a view lead to no other places, its places begin again.
use Rattle.std.proofs.Common.{◌≡◌, ℕ, ℤ, pos, zero, suc, ◌+◌, ◌*◌, ◌/◌, ◌%◌, ◌<◌, ◌+ℤ◌, ◌*ℤ◌, List, [], ◌∷◌, drop, get_or, refl, sym, ap, ◌∙◌, arith}
use Rattle.std.specs.Prelude.{unsigned_abs}
use Rattle.std.proofs.Math.Nat.{mod-eq_of_lt, mod-le, mod-lt, mul_assoc, add-mod-mod, add-mul-mod_self_right}
use Rattle.std.proofs.lemmas.Int.{ints}
use Rattle.std.proofs.lemmas.Nat.{div-add-mod'}
use Rattle.nd_model.specs.Arrays.Strides.{way_to, places_by}
use Rattle.nd_model.specs.Arrays.Tuple.{elements_of}
use Rattle.nd_view.proofs.Counts.{rest_some}
use Rattle.nd_view.proofs.Numbered.{tuple_of, at_number}

-- the last axes are walked a whole number of times
turns : (axes : ℕ) (shape : List ℕ) → (m : ℕ) × (elements_of shape ≡ m * elements_of (drop axes shape))
turns zero shape = (1, omega arith)
turns (suc n) [] = (1, refl)
turns (suc n) (l ∷ shape) =
    let rest = turns n shape in
    (l * rest.0, ap (λ e. l * e) rest.1 ∙ sym (mul_assoc l rest.0 (elements_of (drop n shape))))

pub mod_again : (k p : ℕ) → (k % p) % p ≡ k % p
mod_again k p = let e : 0 + k % p ≡ k % p = omega arith in let f : 0 + k ≡ k = omega arith in ap (λ j. j % p) (sym e) ∙ add-mod-mod 0 k p ∙ ap (λ j. j % p) f

-- the number within the axes behind the first one, and then within the last ones
within_rest : (axes k : ℕ) (shape : List ℕ) → (k % elements_of shape) % elements_of (drop axes shape) ≡ k % elements_of (drop axes shape)
within_rest axes k shape =
    let e : ℕ = elements_of shape in let p : ℕ = elements_of (drop axes shape) in let m = turns axes shape in
    let whole : k / e * e ≡ k / e * m.0 * p = ap (λ x. k / e * x) m.1 ∙ sym (mul_assoc (k / e) m.0 p) in
    let split : k % e + k / e * m.0 * p ≡ k = omega (arith, whole, div-add-mod' k e) in
    sym (add-mul-mod_self_right (k % e) (k / e * m.0) p) ∙ ap (λ x. x % p) split

no_way : (t : List ℕ) → way_to t [] ≡ pos 0
no_way [] = refl
no_way (i ∷ t) = refl

no_step : (q : ℕ) (s w : ℤ) → s ≡ pos 0 → (pos q *ℤ s) +ℤ w ≡ w
no_step q s w e = rw e (omega (arith, ints))

-- where the first axes lead to no other places, the way is that on the last ones
on_last : (axes : ℕ) (shape : List ℕ) (strides : List ℤ) → ((i : ℕ) → i < axes → get_or strides i (pos 0) ≡ pos 0) → (k : ℕ) → k < elements_of shape
    → way_to (tuple_of shape k) strides ≡ way_to (tuple_of (drop axes shape) (k % elements_of (drop axes shape))) (drop axes strides)
on_last zero shape strides still k lt = ap (λ j. way_to (tuple_of shape j) strides) (sym (mod-eq_of_lt lt))
on_last (suc n) [] strides still k lt = refl
on_last (suc n) (l ∷ shape) [] still k lt = sym (no_way (tuple_of (drop n shape) (k % elements_of (drop n shape))))
on_last (suc n) (l ∷ shape) (s ∷ strides) still k lt =
    let e : ℕ = elements_of shape in
    let some : 0 < e = rest_some l e (omega arith) in
    no_step (k / e) s (way_to (tuple_of shape (k % e)) strides) (still 0 (omega arith))
    ∙ on_last n shape strides (λ i below. still (suc i) (omega arith)) (k % e) (mod-lt k some)
    ∙ ap (λ j. way_to (tuple_of (drop n shape) j) (drop n strides)) (within_rest n k shape)

-- so the places begin again after those of the last axes
pub in_turns : (axes first : ℕ) (shape : List ℕ) (strides : List ℤ) → ((i : ℕ) → i < axes → get_or strides i (pos 0) ≡ pos 0) → (k : ℕ) → k < elements_of shape
    → get_or (places_by first strides shape) k 0 ≡ get_or (places_by first strides shape) (k % elements_of (drop axes shape)) 0
in_turns axes first shape strides still k lt =
    let p : ℕ = elements_of (drop axes shape) in
    let few : k % p < elements_of shape = omega (arith, mod-le k p) in
    let way : way_to (tuple_of shape k) strides ≡ way_to (tuple_of shape (k % p)) strides
    = on_last axes shape strides still k lt ∙ ap (λ j. way_to (tuple_of (drop axes shape) j) (drop axes strides)) (sym (mod_again k p)) ∙ sym (on_last axes shape strides still (k % p) few) in
    at_number first strides shape k lt ∙ ap (λ w. unsigned_abs (pos first +ℤ w)) way ∙ sym (at_number first strides shape (k % p) few)
