-- An assignment that is made ready, noted as written and then written, is one store.
use Rattle.std.proofs.Common.{◌≡◌, ℕ, zero, suc, ◌-◌, true, false, List, [], ◌∷◌, map, length, refl, sym, ap, subst, ◌∙◌}
use Rattle.nd_model.specs.Making.Assigning.{assigned_writes, value_shape, without_ones}
use Rattle.nd_model.specs.Arrays.Content.{Content, Num, content_at}
use Rattle.nd_model.specs.Making.Creation.{is_number_type}
use Rattle.nd_model.specs.Making.Operand as operand
use Rattle.nd_model.specs.Cells.Running.{Running, done, Storing}
use Rattle.nd_model.specs.Cells.Sound.{LiesIn}
use Rattle.nd_model.specs.Cells.Storing.{having_block, having_written}
use Rattle.nd_model.specs.Arrays.Value.{Base}
use Rattle.nd_model.specs.Arrays.View.{Geo, byte_places}
use Rattle.nd_model.proofs.Storing.{stores_by_parts}
use Rattle.nd_assign.specs.Assigned.{with_elements, with_number}
use Rattle.nd_assign.specs.Sources.{IsValue}
use Rattle.nd_assign.proofs.Placed.{assigned_places}
use Rattle.nd_operation.specs.Operators.Contents.{contents_over, elements_over}
use Rattle.nd_eval.specs.Choosing.Targets.{writes_to}

without_ones-nil : (more : ℕ) → without_ones more [] ≡ []
without_ones-nil zero = refl
without_ones-nil (suc more) = refl

-- the store of an assignment to the view g of the base b, whose block it leaves with the bytes w
module _ (r : Running) (b : Base) (g : Geo) (w : List ℕ) (lies : LiesIn (length (r.bytes b)) g) where
  -- the bytes are noted as written, and then written
  abbrev pub written_in_parts : Running
  written_in_parts = having_block b w (having_written b (byte_places g) r)

  pub stored_number : (n : operand.Number) → is_number_type g.element ≡ true → w ≡ with_number g (operand.number_of n) (r.bytes b)
      → written_in_parts ≡ done (Storing b (writes_to g (operand.Plain n))) r
  stored_number n is put_in =
      let z = operand.number_of n in
      let writes : List ℕ → List (ℕ × ℕ) = λ shape. assigned_writes g shape (Num z ∷ []) in
      stores_by_parts b (byte_places g) (writes []) w r put_in (assigned_places.number g z lies.count is)
      ∙ ap (λ shape. done (Storing b (writes shape)) r) (sym (without_ones-nil (length {A = ℕ} [] - length g.shape)))

  pub stored_elements : (s : Geo) (bytes : List ℕ) → IsValue g (length bytes) s → contents_over s bytes ≡ map (content_at s.element bytes) s.places
      → w ≡ with_elements g s bytes (r.bytes b) → written_in_parts ≡ done (Storing b (writes_to g (elements_over false s bytes))) r
  stored_elements s bytes value contents put_in =
      let writes : List Content → List (ℕ × ℕ) = λ cs. assigned_writes g (value_shape s.shape g.shape) cs in
      stores_by_parts b (byte_places g) (writes (map (content_at s.element bytes) s.places)) w r put_in
      (assigned_places.elements g s bytes lies.count value.lies.count value.types value.shapes)
      ∙ ap (λ cs. done (Storing b (writes cs)) r) (sym contents)

-- what is said of the contents in bytes that are lent is said of those in the block
pub lent_contents : (s : Geo) (lent bytes : List ℕ) → lent ≡ bytes → contents_over s lent ≡ map (content_at s.element lent) s.places
    → contents_over s bytes ≡ map (content_at s.element bytes) s.places
lent_contents s lent bytes same contents = subst (λ (block : List ℕ). contents_over s block ≡ map (content_at s.element block) s.places) same contents
