-- What the names of functions and types in the program stand for.
use Rattle.std.specs.Prelude.{List, map, string_bytes, Vec}
use Rattle.std.specs.Global.{Global}
use Rattle.nd_types.specs.Kinds.{kind_of}
use Rattle.nd_model.specs.Grammar.Calls as model
use Rattle.nd_syntax.specs.declared.trees.calls.Ufunc.{Ufunc}
use Rattle.nd_syntax.specs.declared.trees.calls.Ufunc.TheVariants as ufunc
use Rattle.nd_syntax.specs.declared.trees.calls.Reduction.{Reduction}
use Rattle.nd_syntax.specs.declared.trees.calls.Reduction.TheVariants as reduction
use Rattle.nd_syntax.specs.declared.trees.calls.Accumulation.{Accumulation}
use Rattle.nd_syntax.specs.declared.trees.calls.Accumulation.TheVariants as accumulation
use Rattle.nd_syntax.specs.declared.trees.calls.Fill.{Fill}
use Rattle.nd_syntax.specs.declared.trees.calls.Fill.TheVariants as fill
use Rattle.nd_syntax.specs.declared.trees.calls.TypeName.{TypeName}
use Rattle.nd_syntax.specs.declared.trees.calls.TypeName.TheVariants as type_name
use Rattle.nd_syntax.specs.declared.trees.calls.FieldType.{FieldType}
use Rattle.nd_syntax.specs.declared.trees.calls.DType.{DType}
use Rattle.nd_syntax.specs.declared.trees.calls.DType.TheVariants as dtype

abbrev pub ufunc_of : Ufunc → model.Ufunc
ufunc_of ufunc.Add = model.Add
ufunc_of ufunc.Multiply = model.Multiply
ufunc_of ufunc.Minimum = model.Minimum
ufunc_of ufunc.Maximum = model.Maximum

abbrev pub reduction_of : Reduction → model.Reduction
reduction_of reduction.Sum = model.Sum
reduction_of reduction.Prod = model.Prod
reduction_of reduction.Min = model.Min
reduction_of reduction.Max = model.Max
reduction_of reduction.Any = model.Any
reduction_of reduction.All = model.All
reduction_of reduction.ArgMin = model.ArgMin
reduction_of reduction.ArgMax = model.ArgMax

abbrev pub accumulation_of : Accumulation → model.Accumulation
accumulation_of accumulation.CumSum = model.CumSum
accumulation_of accumulation.CumProd = model.CumProd

abbrev pub fill_of : Fill → model.Fill
fill_of fill.Zeros = model.Zeros
fill_of fill.Ones = model.Ones

abbrev pub type_name_of : TypeName → model.TypeName
type_name_of (type_name.Kind k) = model.KindName (kind_of k)
type_name_of (type_name.Text t) = model.TypeText (string_bytes t)

abbrev pub field_type_of : FieldType → model.FieldType
field_type_of f = record { name = string_bytes f.name; type_name = type_name_of f.type_name }

abbrev pub field_types_of : Vec FieldType Global → List model.FieldType
field_types_of fs = map field_type_of fs.items

abbrev pub dtype_of : DType → model.DType
dtype_of (dtype.Simple t) = model.Simple (type_name_of t)
dtype_of (dtype.Packed fs) = model.Packed (field_types_of fs)
