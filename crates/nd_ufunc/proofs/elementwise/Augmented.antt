-- What an operator in place comes to, step by step, and what is copied to its target.
use Rattle.std.proofs.Common.{◌≡◌, ◌≢◌, ℕ, ℤ, Bool, true, false, List, map, Option, Some, None, Result, Ok, Err, refl, sym, ap, ◌∙◌, subst}
use Rattle.std.specs.Prelude.{not}
use Rattle.nd_model.specs.Making.Augmenting.{casts_in_place, in_place_kind, results_in_place}
use Rattle.nd_model.specs.Arrays.Broadcast.{broadcasts_to}
use Rattle.std.specs.List.{flat_map}
use Rattle.nd_model.specs.Arrays.Content.{Content, Num, content_at, all_writes}
use Rattle.nd_model.specs.Making.Conversion.{converts, converted_content}
use Rattle.nd_model.specs.Arrays.Element.{Kind, bytes_of, size_of}
use Rattle.nd_model.specs.Making.Elementwise.{little, element_sort, operand_sort, binary_kind, binary_number, has_power_below, number_beside}
use Rattle.nd_model.specs.Cells.Fault.{Fault, Ufunc, KindCast, ReadOnly, ShapeMismatch, NegativePower}
use Rattle.nd_model.specs.Making.Operand.{Operand, Elements, shape_of}
use Rattle.nd_model.specs.Making.Operators.{BinaryUfunc, Operator, Sort, exact}
use Rattle.nd_model.specs.Cells.Refusing.{◌>>=◌, when}
use Rattle.nd_model.specs.Cells.Session.{put}
use Rattle.nd_model.specs.Arrays.Strides.{IsInLimits}
use Rattle.nd_model.specs.Grammar.Syntax.{BinaryOp, Divide}
use Rattle.nd_model.specs.Arrays.Tuple.{indices}
use Rattle.nd_model.specs.Arrays.View.{ElementType, One, Structure, Geo, item_size, contiguous}
use Rattle.nd_model.proofs.Transposed.{ok_same}
use Rattle.nd_model.proofs.Values.{wrap_in_range}
use Rattle.nd_view.proofs.Tuples.{map-map}
use Rattle.nd_assign.specs.Copies.{with_copies}
use Rattle.nd_ufunc.specs.Elementwise.Arguments.{numbers_beside}
use Rattle.nd_ufunc.specs.Elementwise.InPlaceResults.{AreResults}
use Rattle.nd_ufunc.specs.Loops.Results.{binary_result, result_bytes}
use Rattle.nd_ufunc.proofs.elementwise.Alone.{contents_at}
use Rattle.nd_ufunc.proofs.elementwise.Common.{limits_alike}
use Rattle.nd_ufunc.proofs.loops.Zipped.{by_items}

-- ---- the refusals in their order

module _ (op : BinaryOp) (g : Geo) (y : Operand) (k : Kind) (kind_is : binary_kind (Operator op) (element_sort g.element) (operand_sort y) ≡ Ok k) where
  pub has_no_cast : casts_in_place k g.element ≡ false → in_place_kind op g y ≡ Err (Ufunc KindCast)
  has_no_cast cast = rw (kind_is, cast) refl

  pub is_read_only : casts_in_place k g.element ≡ true → g.writable ≡ false → in_place_kind op g y ≡ Err (Ufunc ReadOnly)
  is_read_only cast right = rw (kind_is, cast, right) refl

  pub has_other_shape : casts_in_place k g.element ≡ true → g.writable ≡ true → broadcasts_to (shape_of y) g.shape ≡ false → in_place_kind op g y ≡ Err (Ufunc ShapeMismatch)
  has_other_shape cast right fits = rw (kind_is, cast, right, fits) refl

  pub has_exponent_below : casts_in_place k g.element ≡ true → g.writable ≡ true → broadcasts_to (shape_of y) g.shape ≡ true → has_power_below (Operator op) y g.shape ≡ true
      → in_place_kind op g y ≡ Err (Ufunc NegativePower)
  has_exponent_below cast right fits power = rw (kind_is, cast, right, fits, power) refl

  pub has_kind : casts_in_place k g.element ≡ true → g.writable ≡ true → broadcasts_to (shape_of y) g.shape ≡ true → has_power_below (Operator op) y g.shape ≡ false
      → in_place_kind op g y ≡ Ok k
  has_kind cast right fits power = rw (kind_is, cast, right, fits, power) refl

-- ---- what holds where there is a kind

when_ok : {A : Type 0} (b : Bool) (f : Fault) (r : Result A Fault) (x : A) → when b f r ≡ Ok x → (b ≡ true) × (r ≡ Ok x)
when_ok true f r x e = (refl, e)
when_ok false f r x e = absurd (cc)

after_ok : {A B : Type 0} (r : Result A Fault) (f : A → Result B Fault) (y : B) → (r >>= f) ≡ Ok y → (x : A) × (r ≡ Ok x) × (f x ≡ Ok y)
after_ok (Ok x) f y e = (x, refl, e)
after_ok (Err a) f y e = absurd (cc)

pub record HasKind (op : BinaryOp) (g : Geo) (y : Operand) (k : Kind) : Type 0 where
  pub kind : binary_kind (Operator op) (element_sort g.element) (operand_sort y) ≡ Ok k
  pub casts : casts_in_place k g.element ≡ true
  pub fits : broadcasts_to (shape_of y) g.shape ≡ true

pub kind_facts : (op : BinaryOp) (g : Geo) (y : Operand) (k : Kind) → in_place_kind op g y ≡ Ok k → HasKind op g y k
kind_facts op g y k e =
    let first = after_ok (binary_kind (Operator op) (element_sort g.element) (operand_sort y)) _ k e in
    let casts = when_ok (casts_in_place first.0 g.element) (Ufunc KindCast) _ k first.2 in
    let rights = when_ok g.writable (Ufunc ReadOnly) _ k casts.1 in
    let shapes = when_ok (broadcasts_to (shape_of y) g.shape) (Ufunc ShapeMismatch) _ k rights.1 in
    let powers = when_ok (not (has_power_below (Operator op) y g.shape)) (Ufunc NegativePower) _ k shapes.1 in
    let same : first.0 ≡ k = ok_same first.0 k powers.1 in
    record {
      kind = first.1 ∙ ap Ok same;
      casts = ap (λ j. casts_in_place j g.element) (sym same) ∙ casts.0;
      fits = shapes.0;
    }

-- both sides are numbers, and the operator is no quotient
pub left_some : (f : BinaryUfunc) (a b : Option Sort) (k : Kind) → binary_kind f a b ≡ Ok k → a ≢ None
left_some f None b k e = absurd (cc)
left_some f (Some a) b k e = λ n. absurd (cc)

pub right_some : (f : BinaryUfunc) (a b : Option Sort) (k : Kind) → binary_kind f a b ≡ Ok k → b ≢ None
right_some f None b k e = absurd (cc)
right_some f (Some a) None k e = absurd (cc)
right_some f (Some a) (Some b) k e = λ n. absurd (cc)

pub no_quotient : (a b : Option Sort) (k : Kind) → binary_kind (Operator Divide) a b ≢ Ok k
no_quotient None b k = λ e. absurd (cc)
no_quotient (Some a) None k = λ e. absurd (cc)
no_quotient (Some a) (Some b) k = λ e. absurd (cc)

module _ (op : BinaryOp) (g : Geo) (y : Operand) (k : Kind) (kind_is : binary_kind (Operator op) (element_sort g.element) (operand_sort y) ≡ Ok k) where
  pub target_numbers : element_sort g.element ≢ None
  target_numbers = left_some (Operator op) (element_sort g.element) (operand_sort y) k kind_is

  pub right_numbers : operand_sort y ≢ None
  right_numbers = right_some (Operator op) (element_sort g.element) (operand_sort y) k kind_is

  pub not_divide : Operator op ≢ Operator Divide
  not_divide = λ e. no_quotient (element_sort g.element) (operand_sort y) k (subst (λ f. binary_kind f (element_sort g.element) (operand_sort y) ≡ Ok k) e kind_is)

-- the limits of the target are those of all numbers in its shape
pub cast_limits : (j k : Kind) (t : ElementType) (shape : List ℕ) → casts_in_place j t ≡ true → IsInLimits (item_size t) shape → IsInLimits (size_of k) shape
cast_limits j k (One e) shape casts limits = limits_alike e.kind k shape limits
cast_limits j k (Structure fields size) shape casts limits = absurd (cc)

pub cast_converts : (j : Kind) (t : ElementType) → casts_in_place j t ≡ true → converts (One (little j)) t ≡ true
cast_converts j (One e) casts = refl
cast_converts j (Structure fields size) casts = absurd (cc)

-- ---- the results, and what is written

module _ (k : Kind) (op : BinaryOp) (g : Geo) (x y : Operand) (results : List ℕ)
    (is : results ≡ result_bytes (little k) (binary_result (Operator op) k) (numbers_beside x g.shape) (numbers_beside y g.shape)) where
  abbrev number : List ℕ → ℤ
  number t = binary_number k (Operator op) x y t

  pub bytes_are : results ≡ flat_map (λ t. bytes_of (little k) (number t)) (indices g.shape)
  bytes_are = is ∙ sym (by_items (little k) (binary_result (Operator op) k) (number_beside x) (number_beside y) (indices g.shape))

  pub numbers_are : map (content_at (One (little k)) results) (contiguous (One (little k)) g.shape).places ≡ map (λ t. Num (number t)) (indices g.shape)
  numbers_are = contents_at (little k) g.shape number (λ t. wrap_in_range k (exact k (Operator op) (number_beside x t) (number_beside y t))) results bytes_are

-- they are converted
pub written : (k : Kind) (op : BinaryOp) (g v : Geo) (cs : List Content) (y : Operand) (block results : List ℕ) → AreResults k op g cs y v results
    → with_copies g.element v.element results g.places v.places block ≡ put (results_in_place k op g cs y) block
written k op g v cs y block results are =
    let number : List ℕ → ℤ = binary_number k (Operator op) (Elements false g cs) y in
    ap (λ t. with_copies g.element t results g.places v.places block) (ap (λ (w : Geo). w.element) are.view)
    ∙ ap (λ cs. put (all_writes g.element g.places cs) block)
    (sym (map-map (converted_content g.element) (content_at (One (little k)) results) v.places)
    ∙ ap (map (converted_content g.element)) are.numbers
    ∙ map-map (converted_content g.element) (λ t. Num (number t)) (indices g.shape))
