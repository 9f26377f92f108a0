-- Augmented assignments (NumPy user guide, "Assigning values to indexed arrays"; NumPy's `out` with `casting='same_kind'`): an operator
-- in place has the kind of its operands; its result is converted to the target's kind, within Booleans, unsigned and signed numbers in
-- this order. All numbers are read first.
use Rattle.std.specs.Prelude.{ℕ, Bool, true, false, not, List, ◌∷◌, map, Result, Ok, Err}
use Rattle.nd_model.specs.Arrays.Element.{Kind}
use Rattle.nd_model.specs.Arrays.Promotion.{same_kind}
use Rattle.nd_model.specs.Arrays.Tuple.{indices}
use Rattle.nd_model.specs.Arrays.View.{ElementType, One, Structure, Geo, contiguous}
use Rattle.nd_model.specs.Arrays.Content.{Content, Num}
use Rattle.nd_model.specs.Making.Conversion.{converted_content}
use Rattle.nd_model.specs.Grammar.Syntax.{BinaryOp}
use Rattle.nd_model.specs.Cells.Fault.{Fault, Ufunc, KindCast, ReadOnly, ShapeMismatch, NegativePower, Stmt, BadArgument}
use Rattle.nd_model.specs.Cells.Refusing.{◌>>=◌, when}
use Rattle.nd_model.specs.Making.Operand.{Operand, Plain, Elements, Made, ANumber, AnArray, Deed, BindsMade, Writes, MakesAndWrites, shape_of}
use Rattle.nd_model.specs.Making.Operators.{Operator}
use Rattle.nd_model.specs.Making.Elementwise.{element_sort, operand_sort, binary_kind, binary_number, has_power_below, binary}
use Rattle.nd_model.specs.Arrays.Broadcast.{broadcasts_to}
use Rattle.nd_model.specs.Making.Assigning.{view_writes}
use Rattle.nd_model.specs.Indexing.Index.{has_array}
use Rattle.nd_model.specs.Making.Writing.{assignment_writes}
use Rattle.nd_model.specs.Indexing.Viewing.{Viewing}

-- numbers of the kind may be written in place to elements of the type
abbrev pub casts_in_place : Kind → ElementType → Bool
casts_in_place k (One e) = same_kind k e.kind
casts_in_place k (Structure fields size) = false

-- `x op= y` of an array: the kind of the operation, or why there is none
abbrev pub in_place_kind : BinaryOp → Geo → Operand → Result Kind Fault
in_place_kind op g y = do
  k ← binary_kind (Operator op) (element_sort g.element) (operand_sort y)
  when (casts_in_place k g.element) (Ufunc KindCast)
      (when g.writable (Ufunc ReadOnly)
      (when (broadcasts_to (shape_of y) g.shape) (Ufunc ShapeMismatch)
      (when (not (has_power_below (Operator op) y g.shape)) (Ufunc NegativePower)
      (Ok k))))

-- what an operation of this kind makes of the elements, which have these contents
abbrev pub content_in_place : Kind → BinaryOp → Geo → List Content → Operand → List ℕ → Content
content_in_place k op g cs y t = converted_content g.element (Num (binary_number k (Operator op) (Elements false g cs) y t))

-- and writes to them
abbrev pub results_in_place : Kind → BinaryOp → Geo → List Content → Operand → List (ℕ × ℕ)
results_in_place k op g cs y = view_writes g (content_in_place k op g cs y)

abbrev pub in_place_writes : BinaryOp → Geo → List Content → Operand → Result (List (ℕ × ℕ)) Fault
in_place_writes op g cs y = do
  k ← in_place_kind op g y
  Ok (results_in_place k op g cs y)

-- an array, which has these contents, after `op=` in place
abbrev pub array_in_place : BinaryOp → Geo → List Content → Operand → Result Operand Fault
array_in_place op g cs y = do
  k ← in_place_kind op g y
  Ok (Elements false g (map (content_in_place k op g cs y) (indices g.shape)))

-- `n op= y`: in place on an array; else n is bound to what the operator makes
abbrev pub augment_name : List ℕ → BinaryOp → Operand → Operand → Result Deed Fault
augment_name n op (Elements false g cs) y = do
  ws ← in_place_writes op g cs y
  Ok (Writes 0 ws)
augment_name n op x y = do
  m ← binary op x y
  Ok (BindsMade n m)

-- what was made, as an operand: an array of it alone in its base
abbrev pub operand_of_made : Made → Operand
operand_of_made (ANumber n) = Plain n
operand_of_made (AnArray t shape f) = Elements false (contiguous t shape) (map f (indices shape))

-- it is written where `t` lies; an array of it has a base of its own
abbrev pub deed_of_made : Made → List (ℕ × ℕ) → Deed
deed_of_made (ANumber n) ws = Writes 2 ws
deed_of_made (AnArray t shape f) ws = MakesAndWrites (AnArray t shape f) 2 ws

-- `t[..] op= y` where `t[..]` is an array with these contents: in place on a view; in place on a copy, which is then assigned
abbrev pub augment_array : (is_copy : Bool) → BinaryOp → Viewing → Geo → List Content → (y t : Operand) → List Operand → Result Deed Fault
augment_array false op w g cs y t os = do
  ws ← in_place_writes op g cs y
  Ok (Writes 1 ws)
augment_array true op w g cs y t os = do
  x ← array_in_place op g cs y
  ws ← assignment_writes w x t os
  Ok (Writes 2 ws)

-- `t[..] op= y`, where x is `t[..]`: of an array as above; else what the operator makes is assigned to it
abbrev pub augment_item : BinaryOp → Viewing → List Operand → Result Deed Fault
augment_item op w (y ∷ Elements false g cs ∷ t ∷ os) = augment_array (has_array os) op w g cs y t os
augment_item op w (y ∷ x ∷ t ∷ os) = do
  m ← binary op x y
  ws ← assignment_writes w (operand_of_made m) t os
  Ok (deed_of_made m ws)
augment_item op w _ = Err (Stmt BadArgument)
