-- What inputs give: new arrays in blocks of their own.
use Rattle.std.specs.Prelude.{◌≡◌, ℕ, List, Option, Result, Ok, Err}
use Rattle.nd_model.specs.Cells.Evaluation.{Refuses, ◌>>=◌, decide}
use Rattle.nd_model.specs.Cells.Fault.{Fault, Stmt, NoInput}
use Rattle.nd_model.specs.Formats.Files as files
use Rattle.nd_model.specs.Making.Operand.{Loaded}
use Rattle.nd_model.specs.Cells.Operation.{give_loaded}
use Rattle.nd_model.specs.Cells.Running.{Source}
use Rattle.nd_operation.specs.declared.operators.operand.New.{New}
use Rattle.nd_operation.specs.declared.refusals.stop.Stop.{Stop}
use Rattle.nd_operation.specs.declared.refusals.stop.Stop.TheVariants.{Memory, Refused}
use Rattle.nd_operation.specs.Refusals.Faults.{fault_of}
use Rattle.nd_operation.specs.Operators.New.{given}
use Rattle.nd_eval.specs.declared.loading.inputs.InputSort.{InputSort}
use Rattle.nd_eval.specs.declared.loading.inputs.InputSort.TheVariants.{File, Buffer}

-- what an input of a name comes to, by the sort that is wanted
abbrev pub load_by : InputSort → List ℕ → Option Source → Result Loaded Fault
load_by File = files.load
load_by Buffer = files.buffer

-- what is given of what an input comes to, unless memory ran out
abbrev pub LoadsNew : Result New Stop → Result Loaded Fault → Type 0
LoadsNew (Ok n) loaded = (decide loaded >>= give_loaded) ≡ given n
LoadsNew (Err (Memory m)) loaded = Unit {0}
LoadsNew (Err (Refused f)) loaded = (decide loaded >>= give_loaded) ≡ Refuses (fault_of f)

-- an input of this name is refused, unless memory ran out
abbrev pub RefusesInput : Result New Stop → List ℕ → Type 0
RefusesInput (Ok n) name = ⊥
RefusesInput (Err (Memory m)) name = Unit {0}
RefusesInput (Err (Refused f)) name = fault_of f ≡ Stmt (NoInput name)
