use Rattle.std.proofs.Common.{slice_index}
use Rattle.nd_marks.proofs.Walks.{grid_added}
use Rattle.nd_marks.proofs.kept.append_grids.Goals as goal

pub loop-grid-preserved : goal.loop-grid-preserved
loop-grid-preserved c = grid_added (slice_index c.args.block.now) c.args.grids.now c.loop-grid.grid-index c.grid-item.result c.loop-grid.bytes.items c.append_grid.new.bytes.items _
    c.loop-grid-test.true c.grid-item.is c.in_ok-append_grid.ensures c.loop-grid.invariant
