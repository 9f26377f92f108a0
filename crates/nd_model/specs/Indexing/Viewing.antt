-- The ways to choose something of an operand, the first one: what is chosen of it, by the other operands.
use Rattle.std.specs.Prelude.{ℕ, List, [], ◌∷◌, Result, Err}
use Rattle.nd_model.specs.Grammar.Calls.{DType}
use Rattle.nd_model.specs.Cells.Fault.{Fault, Stmt, BadArgument}
use Rattle.nd_model.specs.Making.Operand.{Operand, Chosen}
use Rattle.nd_model.specs.Indexing.Index.{Form, index_array, index_field}
use Rattle.nd_model.specs.Indexing.ShapeChoices.{transpose_array, reshape_array, stretch_to, recast_array}

pub data Viewing : Type 0 where
  Indexed : List Form → Viewing
  Fielded : (name : List ℕ) → Viewing
  Transposed : Viewing
  Reshaped : Viewing
  BroadcastTo : Viewing
  ViewedAs : DType → Viewing

abbrev pub choose_of_first : Viewing → Operand → List Operand → Result Chosen Fault
choose_of_first (Indexed forms) t os = index_array forms t os
choose_of_first (Fielded name) t os = index_field name t
choose_of_first Transposed t os = transpose_array t os
choose_of_first Reshaped t os = reshape_array t os
choose_of_first BroadcastTo t os = stretch_to t os
choose_of_first (ViewedAs dtype) t os = recast_array dtype t

abbrev pub choose : Viewing → List Operand → Result Chosen Fault
choose w [] = Err (Stmt BadArgument)
choose w (t ∷ os) = choose_of_first w t os
