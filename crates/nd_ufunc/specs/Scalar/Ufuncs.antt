-- Which functions of the definitions the functions of the program are, and what a number counts as.
use Rattle.nd_model.specs.Making.Operators as model
use Rattle.nd_syntax.specs.Trees.Syntax.{binary_op, unary_op}
use Rattle.nd_types.specs.Kinds.{kind_of}
use Rattle.nd_ufunc.specs.declared.scalar.ufunc.BinaryUfunc.{BinaryUfunc}
use Rattle.nd_ufunc.specs.declared.scalar.ufunc.BinaryUfunc.TheVariants.{Operator, Minimum, Maximum}
use Rattle.nd_ufunc.specs.declared.scalar.ufunc.Single.{Single}
use Rattle.nd_ufunc.specs.declared.scalar.ufunc.Single.TheVariants.{Of, Absolute}
use Rattle.nd_ufunc.specs.declared.scalar.kinds.Sort.{Sort}
use Rattle.nd_ufunc.specs.declared.scalar.kinds.Sort.TheVariants.{PythonInt, OfKind}

abbrev pub ufunc_of : BinaryUfunc → model.BinaryUfunc
ufunc_of (Operator op) = model.Operator (binary_op op)
ufunc_of Minimum = model.Minimum
ufunc_of Maximum = model.Maximum

abbrev pub single_of : Single → model.Single
single_of (Of op) = model.Of (unary_op op)
single_of Absolute = model.Absolute

abbrev pub sort_from : Sort → model.Sort
sort_from (PythonInt z) = model.PythonInt z
sort_from (OfKind k) = model.OfKind (kind_of k)
