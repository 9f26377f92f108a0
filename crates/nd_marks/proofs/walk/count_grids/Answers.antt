use Rattle.std.proofs.Common.{arith}
use Rattle.nd_marks.proofs.Walks.{grids_more}
use Rattle.nd_marks.proofs.walk.count_grids.Goals as goal

pub loop-grid-preserved : goal.loop-grid-preserved
loop-grid-preserved c =
    let more = grids_more c.args.grids.now c.loop-grid.grid-index c.grid-item.result c.loop-grid-test.true c.grid-item.is in
    omega (arith, more, c.loop-grid.invariant, c.count_lines.ensures, c.saturating_add.ensures, c.min-count.ensures, c.ranges.most.fits)
