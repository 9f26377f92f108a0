-- Which kind of the definitions a kind of the code is.
use Rattle.std.specs.Prelude.{◌≡◌, refl}
use Rattle.nd_model.specs.Arrays.Element as element
use Rattle.nd_types.specs.declared.kind.Kind.{Kind}
use Rattle.nd_types.specs.declared.kind.Kind.TheVariants as kind

abbrev pub kind_of : Kind → element.Kind
kind_of kind.Bool = element.Boolean
kind_of kind.I8 = element.Int8
kind_of kind.I16 = element.Int16
kind_of kind.I32 = element.Int32
kind_of kind.I64 = element.Int64
kind_of kind.U8 = element.UInt8
kind_of kind.U16 = element.UInt16
kind_of kind.U32 = element.UInt32
kind_of kind.U64 = element.UInt64

-- which kind of the code a kind of the definitions is
abbrev pub kind_from : element.Kind → Kind
kind_from element.Boolean = kind.Bool
kind_from element.Int8 = kind.I8
kind_from element.Int16 = kind.I16
kind_from element.Int32 = kind.I32
kind_from element.Int64 = kind.I64
kind_from element.UInt8 = kind.U8
kind_from element.UInt16 = kind.U16
kind_from element.UInt32 = kind.U32
kind_from element.UInt64 = kind.U64

pub from_of : (k : Kind) → kind_from (kind_of k) ≡ k
from_of kind.Bool = refl
from_of kind.I8 = refl
from_of kind.I16 = refl
from_of kind.I32 = refl
from_of kind.I64 = refl
from_of kind.U8 = refl
from_of kind.U16 = refl
from_of kind.U32 = refl
from_of kind.U64 = refl
