-- What folds make, as the definitions have it.
use Rattle.std.specs.Prelude.{ℤ, Option, Result}
use Rattle.nd_model.specs.Cells.Fault.{Fault}
use Rattle.nd_model.specs.Making.Operand.{Operand, Made}
use Rattle.nd_model.specs.Making.Reductions.{reduce_array, accumulate_array, reduce_call, accumulate_call}
use Rattle.nd_syntax.specs.Trees.Calls.{accumulation_of, reduction_of, ufunc_of}
use Rattle.nd_eval.specs.declared.reducing.folding.Folding.{Folding}
use Rattle.nd_eval.specs.declared.reducing.folding.Folding.TheVariants.{Reduce, Accumulate, ReduceCall, AccumulateCall}

abbrev pub made_of_fold : Folding → Operand → (axis : Option ℤ) → Result Made Fault
made_of_fold (Reduce r keep) = reduce_array (reduction_of r) keep
made_of_fold (Accumulate f) = accumulate_array (accumulation_of f)
made_of_fold (ReduceCall f keep) = reduce_call (ufunc_of f) keep
made_of_fold (AccumulateCall f) = accumulate_call (ufunc_of f)
