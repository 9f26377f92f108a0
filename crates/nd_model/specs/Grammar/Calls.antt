-- The functions and methods of arrays by NumPy's names, and the element types as a cell writes them.
use Rattle.std.specs.Prelude.{ℕ, List}
use Rattle.nd_model.specs.Arrays.Element.{Kind}

-- the universal functions that reduce and accumulate
pub data Ufunc : Type 0 where
  Add : Ufunc
  Multiply : Ufunc
  Minimum : Ufunc
  Maximum : Ufunc

pub data Reduction : Type 0 where
  Sum : Reduction
  Prod : Reduction
  Min : Reduction
  Max : Reduction
  Any : Reduction
  All : Reduction
  ArgMin : Reduction
  ArgMax : Reduction

pub data Accumulation : Type 0 where
  CumSum : Accumulation
  CumProd : Accumulation

-- what a new array is filled with
pub data Fill : Type 0 where
  Zeros : Fill
  Ones : Fill

-- the type of a number: `np.int8` and the like, or a text
pub data TypeName : Type 0 where
  KindName : Kind → TypeName
  TypeText : List ℕ → TypeName

-- a field of a structure, by its name
pub record FieldType : Type 0 where
  pub name : List ℕ
  pub type_name : TypeName

-- a type of elements: of numbers, or of structures of fields
pub data DType : Type 0 where
  Simple : TypeName → DType
  Packed : List FieldType → DType
