-- Lists, the numbers that stand in them, and those that values are.
use Rattle.std.specs.Prelude.{ℕ, ◌+◌, Bool, true, false, List, map}
use Rattle.nd_model.specs.Grammar.Syntax.{Elements, NoElement, AndElement, Element, Single, Nested}
use Rattle.nd_model.specs.Grammar.Cells.{elements_of}
use Rattle.nd_model.specs.Making.Operand.{Number, Truth}
use Rattle.nd_types.specs.declared.num.Num.TheVariants as num
use Rattle.nd_heap.specs.declared.value.Value.{Value}
use Rattle.nd_heap.specs.declared.value.Value.TheVariants as value
use Rattle.nd_syntax.specs.declared.trees.tree.Element as tree
use Rattle.nd_syntax.specs.Trees.Syntax.{element_of}
use Rattle.nd_operation.specs.Operators.Contents.{num_of}

-- the list of elements of the program
abbrev pub list_of : List tree.Element → Element
list_of es = Nested (elements_of (map element_of es))

abbrev mutual
  pub number_count : Element → ℕ
  number_count (Single e) = 1
  number_count (Nested es) = number_counts es

  pub number_counts : Elements → ℕ
  number_counts NoElement = 0
  number_counts (AndElement e es) = number_count e + number_counts es

-- a Python integer or Boolean
abbrev pub is_python : Value → Bool
is_python (value.Number (num.Int z)) = true
is_python (value.Number (num.Bool t)) = true
is_python (value.Number (num.Scalar k z)) = false
is_python (value.Array a) = false
is_python (value.Row a) = false

-- the number that a value is; an array or a row, which is none, counts as `False`
abbrev pub number_in : Value → Number
number_in (value.Number n) = num_of n
number_in (value.Array a) = Truth false
number_in (value.Row a) = Truth false

abbrev pub numbers_in : List Value → List Number
numbers_in vs = map number_in vs
