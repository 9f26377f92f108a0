-- What a function of arrays comes to, step by step.
use Rattle.std.proofs.Common.{◌≡◌, ◌≢◌, ℕ, ◌-◌, pos, Bool, true, false, eqb, List, [], ◌∷◌, map, length, replicate, drop, Option, Some, None, Ok, Err, refl, sym, ap, ◌∙◌, inl, inr, arith, eqb-true}
use Rattle.std.specs.List.{list_any}
use Rattle.std.proofs.lemmas.Bool.{cases_Bool}
use Rattle.std.proofs.lemmas.List.{length-map}
use Rattle.nd_model.specs.Arrays.Broadcast.{broadcast, broadcasts_to, narrowed_axes, own_tuple, in_limits}
use Rattle.nd_model.specs.Arrays.Element.{Kind, size_of}
use Rattle.nd_model.specs.Making.Elementwise.{little, operand_sort, number_beside, binary_kind, common_shape, has_power_below, binary_numbers, single_kind, single_number, single_numbers}
use Rattle.nd_model.specs.Cells.Fault.{Ufunc, NegativePower}
use Rattle.nd_model.specs.Cells.Refusing.{◌>>=◌}
use Rattle.nd_model.specs.Arrays.Content.{number_in}
use Rattle.nd_model.specs.Making.Operand.{Operand, shape_of, content_of}
use Rattle.nd_model.specs.Grammar.Syntax.{Negative, Invert}
use Rattle.nd_model.specs.Making.Operators.{BinaryUfunc, Single, Of, Absolute, Sort, is_power_below}
use Rattle.nd_model.specs.Arrays.Strides.{limit_fault}
use Rattle.nd_model.specs.Arrays.Tuple.{indices, elements_of}
use Rattle.nd_model.specs.Arrays.View.{One, Geo, contiguous}
use Rattle.nd_model.proofs.Stretched.{unless_ok}
use Rattle.nd_model.proofs.Transposed.{ok_same}
use Rattle.nd_model.proofs.Tuples.{length-indices}
use Rattle.nd_view.specs.Indexes.{IsIndex}
use Rattle.nd_view.proofs.Indexed.{same_indexes}
use Rattle.nd_shape.proofs.Ordered.{length_index}
use Rattle.nd_ufunc.specs.Elementwise.Arguments.{numbers_beside}
use Rattle.nd_ufunc.specs.Elementwise.Made.{array_of, bytes_unless_below}
use Rattle.nd_ufunc.specs.Loops.Results.{binary_result, result_bytes}
use Rattle.nd_ufunc.proofs.elementwise.Any.{any_of_map}
use Rattle.nd_ufunc.proofs.elementwise.Common.{broadcast_fits}
use Rattle.nd_ufunc.proofs.elementwise.Standing.{all_alike, array_of_results}

pub length-beside : (o : Operand) (shape : List ℕ) → length (numbers_beside o shape) ≡ elements_of shape
length-beside o shape = length-map (indices shape) (number_beside o) ∙ length-indices shape

-- ---- the view

module _ (k : Kind) (shape : List ℕ) (view : Geo) (view_is : in_limits (One (little k)) shape (Ok (contiguous (One (little k)) shape)) ≡ Ok view) where
  pub within : limit_fault (size_of k) shape ≡ None
  within = (unless_ok (limit_fault (size_of k) shape) _ view view_is).0

  pub viewed : contiguous (One (little k)) shape ≡ view
  viewed = ok_same (contiguous (One (little k)) shape) view (unless_ok (limit_fault (size_of k) shape) _ view view_is).1

-- ---- two arguments

shape_of_some : (o : Option (List ℕ)) (shape : List ℕ) → common_shape o ≡ Ok shape → o ≡ Some shape
shape_of_some None shape e = absurd (cc)
shape_of_some (Some s) shape e = ap Some (ok_same s shape e)

pub both_fit : (s t shape : List ℕ) → common_shape (broadcast s t) ≡ Ok shape → (broadcasts_to s shape ≡ true) × (broadcasts_to t shape ≡ true)
both_fit s t shape e = broadcast_fits s t shape (shape_of_some (broadcast s t) shape e)

pub powers_below : (f : BinaryUfunc) (y : Operand) (shape : List ℕ) → list_any (is_power_below f) (numbers_beside y shape) ≡ has_power_below f y shape
powers_below f y shape = any_of_map (is_power_below f) (number_beside y) (indices shape)

module _ (f : BinaryUfunc) (x y : Operand) (k : Kind) (shape : List ℕ) (view : Geo)
    (kind_is : binary_kind f (operand_sort x) (operand_sort y) ≡ Ok k)
    (shape_is : common_shape (broadcast (shape_of x) (shape_of y)) ≡ Ok shape)
    (view_is : in_limits (One (little k)) shape (Ok (contiguous (One (little k)) shape)) ≡ Ok view) where
  pub is_refused : has_power_below f y shape ≡ true → array_of (binary_numbers f x y) ≡ Err (Ufunc NegativePower)
  is_refused some = rw (kind_is, shape_is, within k shape view view_is, some) refl

  pub is_made : has_power_below f y shape ≡ false → (block : List ℕ) → block ≡ result_bytes (little k) (binary_result f k) (numbers_beside x shape) (numbers_beside y shape)
      → array_of (binary_numbers f x y) ≡ Ok (view, block)
  is_made none block bytes =
      let made = array_of_results k (binary_result f k) shape (number_beside x) (number_beside y) in
      rw (kind_is, shape_is, within k shape view view_is, none) (λ i. Ok (viewed k shape view view_is i, sym (bytes ∙ made) i))

  by_test : (t : Bool) → has_power_below f y shape ≡ t
      → array_of (binary_numbers f x y) ≡ bytes_unless_below f k (numbers_beside x shape) (numbers_beside y shape) >>= (λ b. Ok (view, b))
  by_test true e = let below : list_any (is_power_below f) (numbers_beside y shape) ≡ true = powers_below f y shape ∙ e in is_refused e ∙ sym (rw below refl)
  by_test false e =
      let below : list_any (is_power_below f) (numbers_beside y shape) ≡ false = powers_below f y shape ∙ e in
      is_made e (result_bytes (little k) (binary_result f k) (numbers_beside x shape) (numbers_beside y shape)) refl ∙ sym (rw below refl)

  -- the array is the view with its bytes
  pub comes_to : array_of (binary_numbers f x y) ≡ bytes_unless_below f k (numbers_beside x shape) (numbers_beside y shape) >>= (λ b. Ok (view, b))
  comes_to = by_test (has_power_below f y shape) refl

-- ---- one argument

pub single_some : (op : Single) (s : Option Sort) (k : Kind) → single_kind op s ≡ Ok k → s ≢ None
single_some op (Some s) k e = λ n. absurd (cc)
single_some (Of Negative) None k e = absurd (cc)
single_some (Of Invert) None k e = absurd (cc)
single_some Absolute None k e = absurd (cc)

narrowed_itself : (s t : List ℕ) → IsIndex s t → narrowed_axes s t ≡ t
narrowed_itself [] [] is = refl
narrowed_itself [] (i ∷ t) is = absurd is
narrowed_itself (n ∷ s) [] is = absurd is
narrowed_itself (n ∷ s) (i ∷ t) is = elim (cases_Bool (eqb n 1)) [
  | inl one ↦ let e : n ≡ 1 = eqb-true n 1 one in let z : 0 ≡ i = omega (arith, is.0) in rw one (λ j. z j ∷ narrowed_itself s t is.1 j)
  | inr other ↦ rw other (ap (λ l. i ∷ l) (narrowed_itself s t is.1))
]

pub own_itself : (s t : List ℕ) → IsIndex s t → own_tuple s t ≡ t
own_itself s t is = let none : length t - length s ≡ 0 = omega (arith, length_index s t is) in ap (λ n. narrowed_axes s (drop n t)) none ∙ narrowed_itself s t is

module _ (op : Single) (x : Operand) (k : Kind) (view : Geo)
    (kind_is : single_kind op (operand_sort x) ≡ Ok k)
    (view_is : in_limits (One (little k)) (shape_of x) (Ok (contiguous (One (little k)) (shape_of x))) ≡ Ok view) where
  own : numbers_beside x (shape_of x) ≡ map (λ t. number_in (content_of x t)) (indices (shape_of x))
  own = same_indexes (number_beside x) (λ t. number_in (content_of x t)) (shape_of x) (λ t is. ap (λ u. number_in (content_of x u)) (own_itself (shape_of x) t is))

  pub is_single : (block : List ℕ) → block ≡ result_bytes (little k) (λ a b. single_number op k a) (numbers_beside x (shape_of x)) (replicate (elements_of (shape_of x)) (pos 0))
      → array_of (single_numbers op x) ≡ Ok (view, block)
  is_single block bytes =
      let ts = indices (shape_of x) in
      let others : replicate (elements_of (shape_of x)) (pos 0) ≡ map (λ t. pos 0) ts = ap (λ n. replicate n (pos 0)) (sym (length-indices (shape_of x))) ∙ sym (all_alike (pos 0) ts) in
      let made = array_of_results k (λ a b. single_number op k a) (shape_of x) (λ t. number_in (content_of x t)) (λ t. pos 0) in
      let all = bytes ∙ (λ i. result_bytes (little k) (λ a b. single_number op k a) (own i) (others i)) ∙ made in
      rw (kind_is, within k (shape_of x) view view_is) (λ i. Ok (viewed k (shape_of x) view view_is i, sym all i))
