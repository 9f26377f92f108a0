use Rattle.std.proofs.Common.{◌∙◌, take, refl, sym}
use Rattle.nd_marks.specs.Marks.{in_grid, in_grids}
use Rattle.nd_marks.proofs.Strips.{take_more, among, either_way, false_true}
use Rattle.nd_marks.proofs.bytes.is_same_grids.Goals as goal

pub returns-then-not-is_same_grid : goal.returns-then-not-is_same_grid
returns-then-not-is_same_grid c = (λ h. false_true h, λ all. c.if-not-is_same_grid.ensures.1 (λ p h. all p (among c.args.grids.now c.loop-grid.grid-index c.grid-item.result p c.loop-grid-test.true c.grid-item.is h)))

pub loop-grid-preserved : goal.loop-grid-preserved
loop-grid-preserved c = λ p h. either_way (in_grids (take c.loop-grid.grid-index c.args.grids.now) p) (in_grid c.grid-item.result p)
    (sym (take_more c.args.grids.now c.loop-grid.grid-index c.grid-item.result p c.loop-grid-test.true c.grid-item.is) ∙ h)
    (c.loop-grid.invariant p) (c.if-not-is_same_grid.ensures.0 refl p)
