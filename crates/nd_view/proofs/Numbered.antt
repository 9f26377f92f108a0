-- The tuple of a number, and what strides make of it.
use Rattle.std.proofs.Common.{◌≡◌, ℕ, ◌/◌, ◌%◌, ◌<◌, List, [], ◌∷◌, length, get_or, sym, ap, ◌∙◌, arith}
use Rattle.std.specs.Prelude.{ℤ}
use Rattle.std.proofs.Math.Nat.{mod-lt, div-lt_iff_lt-mul}
use Rattle.std.proofs.lemmas.Nat.{div-add-mod'}
use Rattle.std.proofs.lemmas.List.{length-map}
use Rattle.nd_model.specs.Arrays.Strides.{place_at, places_by}
use Rattle.nd_model.specs.Arrays.Tuple.{elements_of, indices, number}
use Rattle.nd_view.specs.Indexes.{IsIndex}
use Rattle.nd_view.proofs.Counts.{rest_some}
use Rattle.nd_view.proofs.Indexed.{at_index, length-indices}

abbrev pub tuple_of : List ℕ → ℕ → List ℕ
tuple_of [] k = []
tuple_of (n ∷ shape) k = k / elements_of shape ∷ tuple_of shape (k % elements_of shape)

pub tuple_is : (shape : List ℕ) (k : ℕ) → k < elements_of shape → IsIndex shape (tuple_of shape k) × (number shape (tuple_of shape k) ≡ k)
tuple_is [] k lt = (tt, omega arith)
tuple_is (n ∷ shape) k lt =
    let some : 0 < elements_of shape = rest_some n (elements_of shape) (omega arith) in
    let rest = tuple_is shape (k % elements_of shape) (mod-lt k some) in
    let first : k / elements_of shape < n = (div-lt_iff_lt-mul some).1 lt in
    ((first, rest.0), omega (arith, rest.1, div-add-mod' k (elements_of shape)))

pub length-places_by : (offset : ℕ) (strides : List ℤ) (shape : List ℕ) → length (places_by offset strides shape) ≡ elements_of shape
length-places_by offset strides shape = length-map (indices shape) (place_at offset strides) ∙ length-indices shape

pub at_number : (offset : ℕ) (strides : List ℤ) (shape : List ℕ) (k : ℕ) → k < elements_of shape → get_or (places_by offset strides shape) k 0 ≡ place_at offset strides (tuple_of shape k)
at_number offset strides shape k lt =
    let is = tuple_is shape k lt in
    ap (λ m. get_or (places_by offset strides shape) m 0) (sym is.1) ∙ at_index (place_at offset strides) shape (tuple_of shape k) 0 is.0

pub at_tuple : (offset : ℕ) (strides : List ℤ) (shape t : List ℕ) → IsIndex shape t → get_or (places_by offset strides shape) (number shape t) 0 ≡ place_at offset strides t
at_tuple offset strides shape t is = at_index (place_at offset strides) shape t 0 is
