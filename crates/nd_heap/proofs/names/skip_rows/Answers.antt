use Rattle.std.proofs.Common.{arith}
use Rattle.nd_heap.proofs.Marks.{nowhere}
use Rattle.nd_heap.proofs.names.skip_rows.Goals as goal

pub loop-init : goal.loop-init
loop-init c = (omega arith, nowhere c.args.marks.now c.args.mark c.args.end)
