-- What operators in place write, and where they may be applied.
use Rattle.std.specs.Prelude.{◌≡◌, ℕ, List, length, Ok}
use Rattle.nd_model.specs.Making.Augmenting.{in_place_kind, results_in_place}
use Rattle.nd_model.specs.Arrays.Element.{Kind}
use Rattle.nd_model.specs.Making.Operand.{Operand}
use Rattle.nd_model.specs.Cells.Running.{Running, Storing, done}
use Rattle.nd_model.specs.Cells.Sound.{LiesIn}
use Rattle.nd_model.specs.Grammar.Syntax.{BinaryOp}
use Rattle.nd_model.specs.Arrays.Value.{Base}
use Rattle.nd_heap.specs.declared.value.Array.{Array}
use Rattle.nd_heap.specs.declared.value.Value.{Value}
use Rattle.nd_heap.specs.Values.{base_of, geo_of}
use Rattle.nd_operation.specs.Operators.Contents.{contents_over}
use Rattle.nd_eval.specs.Storing.Operands.{IsHeld, operand_over}

-- the bytes that an operation of this kind writes to the elements of an array, in these blocks
abbrev pub updates_by : (k : Kind) → BinaryOp → (Base → List ℕ) → Array → Operand → List (ℕ × ℕ)
updates_by k op bytes a y = results_in_place k op (geo_of a) (contents_over (geo_of a) (bytes (base_of a.base))) y

abbrev pub updates : (k : Kind) → BinaryOp → (Base → List ℕ) → Array → Value → List (ℕ × ℕ)
updates k op bytes a v = updates_by k op bytes a (operand_over bytes v)

-- the session once they are written
abbrev pub updated_by : (k : Kind) → BinaryOp → Array → Operand → Running → Running
updated_by k op a y r = done (Storing (base_of a.base) (updates_by k op r.bytes a y)) r

-- array and value lie in their blocks, and the operation is of this kind
pub record IsUpdatable (k : Kind) (op : BinaryOp) (r : Running) (a : Array) (v : Value) : Type 0 where
  pub target : LiesIn (length (r.bytes (base_of a.base))) (geo_of a)
  pub value : IsHeld r v
  pub kind : in_place_kind op (geo_of a) (operand_over r.bytes v) ≡ Ok k
