-- Results in place that are made ready, noted as written and then written, are one store.
use Rattle.std.proofs.Common.{◌≡◌, ℕ, true, false, List, length, Option, Result, Ok, refl}
use Rattle.nd_model.specs.Making.Augmenting.{in_place_kind, results_in_place}
use Rattle.nd_model.specs.Arrays.Content.{Num}
use Rattle.nd_model.specs.Making.Creation.{is_number_type}
use Rattle.nd_model.specs.Arrays.Element.{Kind}
use Rattle.nd_model.specs.Making.Elementwise.{element_sort, operand_sort, binary_kind, binary_number}
use Rattle.nd_model.specs.Cells.Fault.{Fault}
use Rattle.nd_model.specs.Making.Operand.{Operand, Elements}
use Rattle.nd_model.specs.Making.Operators.{Operator, Sort}
use Rattle.nd_model.specs.Cells.Refusing as refusing
use Rattle.nd_model.specs.Cells.Running.{Running, done, Storing}
use Rattle.nd_model.specs.Cells.Session.{put}
use Rattle.nd_model.specs.Cells.Storing.{having_block, having_written}
use Rattle.nd_model.specs.Grammar.Syntax.{BinaryOp}
use Rattle.nd_model.specs.Arrays.Tuple.{elements_of}
use Rattle.nd_model.specs.Arrays.Value.{Base}
use Rattle.nd_model.specs.Arrays.View.{ElementType, One, Structure, Geo, byte_places}
use Rattle.nd_model.proofs.Storing.{stores_by_parts}
use Rattle.nd_assign.proofs.Placed.{assigned_places}
use Rattle.nd_operation.specs.Operators.Contents.{contents_over}

-- an operator in place has a target of numbers
numbers_alone : (op : BinaryOp) (t : ElementType) (s : Option Sort) (rest : Kind → Result Kind Fault) (k : Kind)
    → refusing.◌>>=◌ (binary_kind (Operator op) (element_sort t) s) rest ≡ Ok k → is_number_type t ≡ true
numbers_alone op (One e) s rest k is = refl
numbers_alone op (Structure fields size) s rest k is = absurd cc

pub updated_in_parts : (r : Running) (b : Base) (g : Geo) (w : List ℕ) (k : Kind) (op : BinaryOp) (y : Operand) → length g.places ≡ elements_of g.shape
    → in_place_kind op g y ≡ Ok k → w ≡ put (results_in_place k op g (contents_over g (r.bytes b)) y) (r.bytes b)
    → having_block b w (having_written b (byte_places g) r) ≡ done (Storing b (results_in_place k op g (contents_over g (r.bytes b)) y)) r
updated_in_parts r b g w k op y count is put_in =
    stores_by_parts b (byte_places g) (results_in_place k op g (contents_over g (r.bytes b)) y) w r put_in
    (assigned_places.numbers g (λ t. Num (binary_number k (Operator op) (Elements false g (contents_over g (r.bytes b))) y t)) count
    (numbers_alone op g.element (operand_sort y) _ k is))
