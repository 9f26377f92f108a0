-- What an operator leaves of a copy, assigned to elements, is one store of what it makes, converted once.
use Rattle.std.proofs.Common.{◌≡◌, ℕ, zero, suc, false, List, [], ◌∷◌, map, length, Ok, refl, sym, ap, subst, ◌∙◌}
use Rattle.std.specs.Prelude.{true}
use Rattle.nd_model.specs.Making.Assigning.{assigned_writes, fits_into, value_shape, view_writes}
use Rattle.nd_model.specs.Making.Augmenting.{in_place_kind}
use Rattle.nd_model.specs.Arrays.Broadcast.{own_tuple}
use Rattle.nd_model.specs.Arrays.Content.{Content, Num, content_at, content_or, number_in}
use Rattle.nd_model.specs.Making.Conversion.{converts, converted_content}
use Rattle.nd_model.specs.Arrays.Element.{Kind, wrap}
use Rattle.nd_model.specs.Making.Elementwise.{binary_number, little}
use Rattle.nd_model.specs.Making.Operand.{Operand, Plain, Elements}
use Rattle.nd_model.specs.Making.Operators.{Operator}
use Rattle.nd_model.specs.Cells.Running.{Running, done, Storing}
use Rattle.nd_model.specs.Cells.Sound.{LiesIn}
use Rattle.nd_model.specs.Cells.Storing.{having_block, having_written}
use Rattle.nd_model.specs.Grammar.Syntax.{BinaryOp}
use Rattle.nd_model.specs.Arrays.Tuple.{indices, number}
use Rattle.nd_model.specs.Arrays.Value.{Base}
use Rattle.nd_model.specs.Arrays.View.{ElementType, One, Structure, Geo, byte_places}
use Rattle.nd_model.proofs.Storing.{stores_by_parts}
use Rattle.nd_model.proofs.Values.{wrap_in_range, wrap_value}
use Rattle.nd_assign.specs.Assigned.{with_elements}
use Rattle.nd_assign.proofs.Placed.{assigned_places}
use Rattle.nd_ufunc.proofs.elementwise.Augmented.{cast_converts, kind_facts}
use Rattle.nd_ufunc.specs.Elementwise.InPlaceResults.{AreResults}
use Rattle.nd_heap.specs.declared.value.Array.{Array}
use Rattle.nd_heap.specs.declared.value.Value.{Value}
use Rattle.nd_heap.specs.declared.value.Value.TheVariants as value
use Rattle.nd_heap.specs.Values.{base_of, geo_of}
use Rattle.nd_operation.specs.Operators.Contents.{contents_over}
use Rattle.nd_operation.specs.Operators.Elementwise.{as_array}
use Rattle.nd_eval.specs.Choosing.Targets.{writes_to}
use Rattle.nd_eval.specs.Storing.Operands.{operand_over}
use Rattle.nd_eval.specs.Storing.Storable.{IsCopyUpdatable, copy_updates}

-- what is converted stays as it is where it is converted again
twice_converted : (t : ElementType) (c : Content) → converted_content t (converted_content t c) ≡ converted_content t c
twice_converted (One e) c = ap Num (wrap_value e.kind (wrap e.kind (number_in c)) (wrap_in_range e.kind (number_in c)))
twice_converted (Structure fields size) c = refl

converted_or : (t : ElementType) (f : List ℕ → Content) (ts : List (List ℕ)) (j : ℕ)
    → converted_content t (content_or (map f ts) j) ≡ converted_content t (content_or (map (λ s. converted_content t (f s)) ts) j)
converted_or t f [] j = refl
converted_or t f (s ∷ ts) zero = sym (twice_converted t (f s))
converted_or t f (s ∷ ts) (suc j) = converted_or t f ts j

-- a row is an array without axes
pub row_alike : (op : BinaryOp) (g : Geo) (y : Operand) → in_place_kind op g (as_array y) ≡ in_place_kind op g y
row_alike op g (Plain n) = refl
row_alike op g (Elements row h cs) = refl

number_alike : (k : Kind) (op : BinaryOp) (x y : Operand) (t : List ℕ) → binary_number k (Operator op) x (as_array y) t ≡ binary_number k (Operator op) x y t
number_alike k op x (Plain n) t = refl
number_alike k op x (Elements row h cs) t = refl

-- numbers convert to the elements of the copy's type
pub results_convert : (op : BinaryOp) (g : Geo) (y : Operand) (k : Kind) (t : ElementType) → in_place_kind op g y ≡ Ok k → g.element ≡ t → converts (One (little k)) t ≡ true
results_convert op g y k t kind is = ap (converts (One (little k))) (sym is) ∙ cast_converts k g.element (kind_facts op g y k kind).casts

module _ (k : Kind) (op : BinaryOp) (r : Running) (b : Base) (g : Geo) (copy : Array) (v : Value) (ready : IsCopyUpdatable k op r b g copy v)
    (view : Geo) (bytes w : List ℕ) (are : AreResults k op (geo_of copy) (contents_over (geo_of copy) (r.bytes (base_of copy.base))) (as_array (operand_over r.bytes v)) view bytes) where
  abbrev h : Geo
  h = geo_of copy

  abbrev cs : List Content
  cs = contents_over h (r.bytes (base_of copy.base))

  abbrev made : List ℕ → Content
  made t = Num (binary_number k (Operator op) (Elements false h cs) (operand_over r.bytes v) t)

  contents : map (content_at view.element bytes) view.places ≡ map made (indices h.shape)
  contents =
      ap (λ t. map (content_at t bytes) view.places) (ap (λ (g : Geo). g.element) are.view) ∙ are.numbers
      ∙ ap (λ f. map f (indices h.shape)) (λ i t. Num (number_alike k op (Elements false h cs) (operand_over r.bytes v) t i))

  writes : assigned_writes g (value_shape view.shape g.shape) (map (content_at view.element bytes) view.places) ≡ copy_updates k op r.bytes g copy v
  writes =
      (λ i. assigned_writes g (value_shape (are.view i).shape g.shape) (contents i))
      ∙ ap (view_writes g) (λ i t. converted_or g.element made (indices h.shape) (number (value_shape h.shape g.shape) (own_tuple (value_shape h.shape g.shape) t)) i)
      ∙ (λ i. assigned_writes g (value_shape h.shape g.shape) (map (λ t. converted_content (sym ready.types i) (made t)) (indices h.shape)))

  pub copy_stored : converts view.element g.element ≡ true → fits_into view.shape g.shape ≡ true → w ≡ with_elements g view bytes (r.bytes b)
      → having_block b w (having_written b (byte_places g) r) ≡ done (Storing b (copy_updates k op r.bytes g copy v)) r
  copy_stored types shapes put_in =
      stores_by_parts b (byte_places g) (assigned_writes g (value_shape view.shape g.shape) (map (content_at view.element bytes) view.places)) w r put_in
      (assigned_places.elements g view bytes ready.target.count are.lies.count types shapes)
      ∙ ap (λ ws. done (Storing b ws) r) writes
