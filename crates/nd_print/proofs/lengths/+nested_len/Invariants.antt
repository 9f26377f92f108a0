use Rattle.std.proofs.Common.{length}
use Rattle.nd_print.proofs.lengths.+nested_len.Given as goal

abbrev pub decreases-nested_len : goal.decreases-nested_len
decreases-nested_len l = length l.shape.now
