-- The one value of want of memory, for clauses that say that memory was refused.
use Rattle.std.specs.Prelude.{alloc_error}
use Rattle.nd_memory.specs.declared.OutOfMemory.{OutOfMemory}

pub out_of_memory : OutOfMemory
out_of_memory = record { refused = alloc_error }
