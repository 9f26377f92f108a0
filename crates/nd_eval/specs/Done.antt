-- What a statement gives, as the definitions have it.
use Rattle.std.specs.Prelude.{Result, Ok, Err, option_map, string_bytes}
use Rattle.nd_model.specs.Cells.Fault.{Fault}
use Rattle.nd_model.specs.Cells.Running as running
use Rattle.nd_operation.specs.declared.refusals.fault.StmtFault.{StmtFault}
use Rattle.nd_eval.specs.declared.exec.Output.{Output}
use Rattle.nd_operation.specs.Refusals.Faults.{fault_of}

abbrev pub output_of : Output → running.Output
output_of o = record { text = string_bytes o.text; save = option_map (λ f. (string_bytes f.0, f.1.items)) o.save }

abbrev pub outcome_of : Result Output StmtFault → Result running.Output Fault
outcome_of (Ok o) = Ok (output_of o)
outcome_of (Err f) = Err (fault_of f)
