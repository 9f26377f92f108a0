-- Why an evaluation stops at a type that is written, or where a function takes no arrays.
use Rattle.nd_syntax.specs.declared.dtypes.fault.TypeFault.{TypeFault}
use Rattle.nd_syntax.specs.declared.dtypes.fault.TypeFault.TheVariants as type_fault
use Rattle.nd_ufunc.specs.declared.elementwise.fault.MapFault.{MapFault}
use Rattle.nd_ufunc.specs.declared.elementwise.fault.MapFault.TheVariants as map_fault
use Rattle.nd_npy.specs.declared.pep3118.fault.FormatError.{FormatError}
use Rattle.nd_npy.specs.declared.pep3118.fault.FormatError.TheVariants as format_error
use Rattle.nd_npy.specs.declared.header.fault.NpyError.{NpyError}
use Rattle.nd_npy.specs.declared.header.fault.NpyError.TheVariants as npy_error
use Rattle.nd_operation.specs.declared.refusals.fault.StmtFault.TheVariants.{Format, Npy, Stmt, Ufunc, View}
use Rattle.nd_operation.specs.declared.refusals.fault.StmtError.TheVariants.{BadType}
use Rattle.nd_operation.specs.declared.refusals.stop.Stop.{Stop}
use Rattle.nd_operation.specs.declared.refusals.stop.Stop.TheVariants.{Memory, Refused}

abbrev pub type_stop : TypeFault → Stop
type_stop type_fault.BadType = Refused (Stmt BadType)
type_stop (type_fault.Memory m) = Memory m

abbrev pub format_stop : FormatError → Stop
format_stop (format_error.Memory m) = Memory m
format_stop (format_error.Fault f) = Refused (Format f)

abbrev pub npy_stop : NpyError → Stop
npy_stop (npy_error.Memory m) = Memory m
npy_stop (npy_error.Fault f) = Refused (Npy f)

abbrev pub map_stop : MapFault → Stop
map_stop (map_fault.Memory m) = Memory m
map_stop (map_fault.Ufunc f) = Refused (Ufunc f)
map_stop (map_fault.View f) = Refused (View f)
