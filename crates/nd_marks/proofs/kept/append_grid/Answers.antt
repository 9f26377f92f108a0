use Rattle.std.proofs.Common.{slice_index, arith}
use Rattle.nd_marks.proofs.Walks.{line_added}
use Rattle.nd_marks.proofs.kept.append_grid.Goals as goal

pub loop-number-preserved : goal.loop-number-preserved
loop-number-preserved c = line_added (slice_index c.args.block.now) c.args.grid.now c.loop-number.number c.line.result c.loop-number.bytes.items c.append_strip.new.bytes.items _
    (omega (arith, c.loop-number-test.true, c.lines-number-end.ensures)) c.line.ensures c.in_ok-append_strip.ensures c.loop-number.invariant
