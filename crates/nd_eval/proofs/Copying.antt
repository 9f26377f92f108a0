-- Copies of elements that an index with arrays chose.
use Rattle.std.proofs.Common.{◌≡◌, ℕ, List, None, Result, Ok, Err, IfOk, sym, ap, ◌∙◌}
use Rattle.nd_model.specs.Cells.Evaluation.{run}
use Rattle.nd_model.specs.Cells.Fault.{Fault}
use Rattle.nd_model.specs.Cells.Operation.{give}
use Rattle.nd_model.specs.Cells.Running.{Running, Inputs}
use Rattle.nd_model.specs.Arrays.Strides.{limit_fault}
use Rattle.nd_model.specs.Arrays.Value as model
use Rattle.nd_model.specs.Arrays.Value.{Base}
use Rattle.nd_model.specs.Arrays.View.{ElementType, Geo, contiguous, item_size}
use Rattle.nd_heap.specs.declared.value.Value.{Value}
use Rattle.nd_heap.specs.declared.value.Value.TheVariants.{Number, Array, Row}
use Rattle.nd_heap.specs.Values.{geo_of, value_of}
use Rattle.nd_operation.specs.declared.refusals.stop.Stop.{Stop}
use Rattle.nd_eval.specs.Choosing.Selections.{copy_of}
use Rattle.nd_eval.specs.Ends.{Ends}
use Rattle.nd_eval.specs.Uses.{IsOfType}

-- the type of a new array
of_array : (b : Base) (v : Geo) (w : Value) (t : ElementType) → v.element ≡ t → model.Array b v ≡ value_of w → IsOfType t w
of_array b v (Number n) t is h = tt
of_array b v (Array a) t is h = let same : v ≡ geo_of a = cc in ap (λ (g : Geo). g.element) (sym same) ∙ is
of_array b v (Row a) t is h = tt

-- a copy has elements of the type that it was made of
pub copied_type : (i : Inputs) (h : Geo) (block : List ℕ) → limit_fault (item_size h.element) h.shape ≡ None → (o : Result Value Stop) (s r : Running)
    → Ends value_of o s (run i (give (copy_of h block)) r) → IfOk o (IsOfType h.element)
copied_type i h block limits (Err e) s r ends = tt
copied_type i h block limits (Ok w) s r ends =
    let made : ◌≡◌ {A = Result model.Value Fault × Running} (run i (give (copy_of h block)) r) (Ok (value_of w), s) = ends in
    let told = rw limits at made in
    let first = ap (λ (m : Result model.Value Fault × Running). m.0) told in
    of_array (record { label = r.label; number = r.next }) (contiguous h.element h.shape) w h.element (λ j. h.element) (let same : model.Array (record { label = r.label; number = r.next }) (contiguous h.element h.shape) ≡ value_of w = cc in same)
