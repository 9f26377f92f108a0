-- Which operands the arguments of a function are.
use Rattle.std.specs.Prelude.{ℕ, ℤ, false, List, length, map, slice_index}
use Rattle.nd_model.specs.Arrays.Content.{Content, contents_in}
use Rattle.nd_model.specs.Making.Elementwise.{number_beside}
use Rattle.nd_model.specs.Making.Operand as operand
use Rattle.nd_model.specs.Cells.Sound.{LiesIn}
use Rattle.nd_model.specs.Arrays.Tuple.{indices}
use Rattle.nd_model.specs.Arrays.View.{Geo, byte_places}
use Rattle.nd_ufunc.specs.Scalar.Numbers.{num_of}
use Rattle.nd_ufunc.specs.declared.elementwise.argument.Argument.{Argument}
use Rattle.nd_ufunc.specs.declared.elementwise.argument.Argument.TheVariants.{Number, Elements}

-- the contents of a view's elements, in the block that they lie in
abbrev pub contents_over : Geo → List ℕ → List Content
contents_over g block = contents_in g.element (length g.places) (map (λ p. slice_index block p) (byte_places g))

abbrev pub argument_of : Argument → operand.Operand
argument_of (Number n) = operand.Plain (num_of n)
argument_of (Elements v bytes) = operand.Elements false v.now (contents_over v.now bytes.now)

-- every byte of each element is one of the block
abbrev pub LiesInBlock : Argument → Type 0
LiesInBlock (Number n) = Unit {0}
LiesInBlock (Elements v bytes) = LiesIn (length bytes.now) v.now

-- the numbers of an operand, as they stand in a greater shape
abbrev pub numbers_beside : operand.Operand → List ℕ → List ℤ
numbers_beside o shape = map (number_beside o) (indices shape)
