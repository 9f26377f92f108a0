-- Effects that print a text no longer than a cell's may be.
use Rattle.std.specs.Prelude.{nat_le, if◌then◌else◌, length, Result, Ok, Err}
use Rattle.nd_model.specs.Cells.Fault.{Fault, Stmt, TextTooLong}
use Rattle.nd_model.specs.Cells.Running.{Running, Effect, Nothing, Prints, Saves, Binding, Unbinding, Storing}
use Rattle.nd_model.specs.Cells.Cell.{most_text}

-- an effect that prints a text over the limit is refused
abbrev pub limit_effect : Result Effect Fault × Running → Result Effect Fault × Running
limit_effect (Ok Nothing, r) = (Ok Nothing, r)
limit_effect (Ok (Prints t), r) = (if nat_le (length t) most_text then Ok (Prints t) else Err (Stmt TextTooLong), r)
limit_effect (Ok (Saves n f), r) = (Ok (Saves n f), r)
limit_effect (Ok (Binding n v), r) = (Ok (Binding n v), r)
limit_effect (Ok (Unbinding n), r) = (Ok (Unbinding n), r)
limit_effect (Ok (Storing b ws), r) = (Ok (Storing b ws), r)
limit_effect (Err f, r) = (Err f, r)
