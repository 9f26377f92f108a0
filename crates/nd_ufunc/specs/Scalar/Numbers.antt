-- Which numbers of the definitions the numbers of the program are.
use Rattle.nd_model.specs.Making.Operand as operand
use Rattle.nd_types.specs.Kinds.{kind_of}
use Rattle.nd_types.specs.declared.num.Num.{Num}
use Rattle.nd_types.specs.declared.num.Num.TheVariants.{Int, Bool, Scalar}

abbrev pub num_of : Num → operand.Number
num_of (Int z) = operand.Int z
num_of (Bool t) = operand.Truth t
num_of (Scalar k z) = operand.Scalar (kind_of k) z

-- a number that an operation makes
abbrev pub number_made : Num → operand.Made
number_made n = operand.ANumber (num_of n)
