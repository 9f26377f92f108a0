-- NumPy scalars, and why an evaluation stops where there is no fold.
use Rattle.std.specs.Prelude.{ℤ}
use Rattle.nd_model.specs.Making.Operand.{Number, Scalar}
use Rattle.nd_types.specs.declared.kind.Kind.{Kind}
use Rattle.nd_types.specs.Kinds.{kind_of}
use Rattle.nd_reduce.specs.declared.axes.fault.AxisFault.{AxisFault}
use Rattle.nd_reduce.specs.declared.axes.fault.AxisFault.TheVariants as fault
use Rattle.nd_operation.specs.declared.refusals.fault.StmtFault.TheVariants as stmt
use Rattle.nd_operation.specs.declared.refusals.fault.ReduceFault.TheVariants as reduce
use Rattle.nd_operation.specs.declared.refusals.stop.Stop.{Stop}
use Rattle.nd_operation.specs.declared.refusals.stop.Stop.TheVariants.{Memory, Refused}

abbrev pub scalar_number : Kind × ℤ → Number
scalar_number n = Scalar (kind_of n.0) n.1

-- why an evaluation stops where there is no fold
abbrev pub fold_stop : AxisFault → Stop
fold_stop (fault.Memory m) = Memory m
fold_stop fault.NotNumbers = Refused (stmt.Reduce reduce.NotNumbers)
fold_stop fault.NoAxis = Refused (stmt.Reduce reduce.NoAxis)
fold_stop fault.EmptyReduce = Refused (stmt.Reduce reduce.EmptyReduce)
fold_stop (fault.View f) = Refused (stmt.View f)
