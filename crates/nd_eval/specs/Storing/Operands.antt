-- The operands that values are in their blocks.
use Rattle.std.specs.Prelude.{ℕ, true, false, List, map}
use Rattle.std.specs.List.{All}
use Rattle.nd_model.specs.Arrays.Value.{Base}
use Rattle.nd_model.specs.Making.Operand as operand
use Rattle.nd_model.specs.Cells.Running.{Running}
use Rattle.nd_model.specs.Cells.Sound.{IsHeldView, IsViewOf}
use Rattle.nd_heap.specs.declared.value.Value.{Value}
use Rattle.nd_heap.specs.declared.value.Value.TheVariants.{Number, Array, Row}
use Rattle.nd_heap.specs.Values.{base_of, geo_of, value_of}
use Rattle.nd_operation.specs.Operators.Contents.{num_of, elements_over}

-- an array lies in its block
abbrev pub IsHeld : Running → Value → Type 0
IsHeld r v = IsViewOf (IsHeldView r) (value_of v)

abbrev pub AreHeld : Running → List Value → Type 0
AreHeld r vs = All (λ v. IsHeld r v) vs

-- the operand that a value is, its elements in these blocks
abbrev pub operand_over : (Base → List ℕ) → Value → operand.Operand
operand_over bytes (Number n) = operand.Plain (num_of n)
operand_over bytes (Array a) = elements_over false (geo_of a) (bytes (base_of a.base))
operand_over bytes (Row a) = elements_over true (geo_of a) (bytes (base_of a.base))

abbrev pub operands_over : (Base → List ℕ) → List Value → List operand.Operand
operands_over bytes vs = map (operand_over bytes) vs
