-- What functions come to that ask nothing.
use Rattle.std.specs.Prelude.{◌≡◌, Result, Ok, Err}
use Rattle.nd_model.specs.Cells.Fault.{Fault}
use Rattle.nd_operation.specs.declared.refusals.fault.StmtFault.{StmtFault}
use Rattle.nd_operation.specs.declared.refusals.stop.Stop.{Stop}
use Rattle.nd_operation.specs.declared.refusals.stop.Stop.TheVariants.{Memory, Refused}
use Rattle.nd_operation.specs.Refusals.Faults.{fault_of}

-- what is worked out without a question, and takes no memory
abbrev pub Says : {X Y : Type 0} → (X → Y) → Result X StmtFault → Result Y Fault → Type 0
Says view (Ok x) y = y ≡ Ok (view x)
Says view (Err f) y = y ≡ Err (fault_of f)

-- the same, unless memory ran out
abbrev pub Makes : {X Y : Type 0} → (X → Y) → Result X Stop → Result Y Fault → Type 0
Makes view (Ok x) y = y ≡ Ok (view x)
Makes view (Err (Memory m)) y = Unit {0}
Makes view (Err (Refused f)) y = y ≡ Err (fault_of f)
