-- What may be stored.
use Rattle.std.specs.Prelude.{◌≡◌, ℕ, false, Ok, List, map, true, length}
use Rattle.nd_model.specs.Making.Assigning.{fits_into}
use Rattle.nd_model.specs.Making.Augmenting.{content_in_place, in_place_kind}
use Rattle.nd_model.specs.Making.Creation.{operand_converts}
use Rattle.nd_model.specs.Arrays.Element.{Kind}
use Rattle.nd_model.specs.Making.Operand.{Operand, Elements, shape_of}
use Rattle.nd_model.specs.Cells.Running.{Running}
use Rattle.nd_model.specs.Cells.Sound.{LiesIn}
use Rattle.nd_model.specs.Grammar.Syntax.{BinaryOp}
use Rattle.nd_model.specs.Arrays.Tuple.{indices}
use Rattle.nd_model.specs.Arrays.Value.{Base}
use Rattle.nd_model.specs.Arrays.View.{Geo}
use Rattle.nd_heap.specs.declared.value.Array.{Array}
use Rattle.nd_heap.specs.declared.value.Value.{Value}
use Rattle.nd_heap.specs.Values.{base_of, geo_of}
use Rattle.nd_operation.specs.Operators.Contents.{contents_over}
use Rattle.nd_eval.specs.Choosing.Targets.{writes_to}
use Rattle.nd_eval.specs.Storing.Operands.{IsHeld, operand_over}

-- A value may be assigned to elements in a base: both lie in their blocks, the value's elements convert to the target's, and its
-- shape fits into the target's.
pub record IsStorableIn (r : Running) (b : Base) (g : Geo) (v : Value) : Type 0 where
  pub target : LiesIn (length (r.bytes b)) g
  pub value : IsHeld r v
  pub types : operand_converts (operand_over r.bytes v) g.element ≡ true
  pub shapes : fits_into (shape_of (operand_over r.bytes v)) g.shape ≡ true

-- to the elements of an array
abbrev pub IsStorable : Running → Array → Value → Type 0
IsStorable r a v = IsStorableIn r (base_of a.base) (geo_of a) v

-- ---- an operator in place on a copy

-- the copy after it, in these blocks: each element as the operation of this kind leaves it
abbrev pub updated_copy : (k : Kind) → BinaryOp → (Base → List ℕ) → (copy : Array) → Value → Operand
updated_copy k op bytes a v =
    let g = geo_of a in
    Elements false g (map (content_in_place k op g (contents_over g (bytes (base_of a.base))) (operand_over bytes v)) (indices g.shape))

-- the bytes that elements get of it
abbrev pub copy_updates : (k : Kind) → BinaryOp → (Base → List ℕ) → Geo → (copy : Array) → Value → List (ℕ × ℕ)
copy_updates k op bytes g a v = writes_to g (updated_copy k op bytes a v)

-- An operation of this kind may be applied to a copy of elements in a base and a value, and then be assigned to the elements: all lie
-- in their blocks, and the copy has elements of their type, and a shape that fits into theirs.
pub record IsCopyUpdatable (k : Kind) (op : BinaryOp) (r : Running) (b : Base) (g : Geo) (copy : Array) (v : Value) : Type 0 where
  pub target : LiesIn (length (r.bytes b)) g
  pub source : LiesIn (length (r.bytes (base_of copy.base))) (geo_of copy)
  pub value : IsHeld r v
  pub kind : in_place_kind op (geo_of copy) (operand_over r.bytes v) ≡ Ok k
  pub types : (geo_of copy).element ≡ g.element
  pub shapes : fits_into (geo_of copy).shape g.shape ≡ true
