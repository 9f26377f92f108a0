use Rattle.std.proofs.Common.{◌≡◌}
use Rattle.nd_model.specs.Arrays.Runs.{copied}
use Rattle.nd_block.proofs.runs.copy_elements.Given as goal

abbrev pub invariant-loop-k : goal.invariant-loop-k
invariant-loop-k l = l.bytes ≡ copied l.fn.dst l.fn.dst_step l.fn.src l.fn.src_step l.fn.size l.k l.fn.bytes
