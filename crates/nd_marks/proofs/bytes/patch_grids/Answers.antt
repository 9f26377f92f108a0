use Rattle.std.proofs.Common.{◌<◌, ◌∙◌, cond, length, slice_index, take, sym, ap, arith}
use Rattle.nd_marks.specs.Marks.{in_grid, in_grids}
use Rattle.nd_marks.proofs.Strips.{take_more, put_both}
use Rattle.nd_marks.proofs.bytes.patch_grids.Goals as goal

pub loop-grid-preserved : goal.loop-grid-preserved
loop-grid-preserved c = λ p lt.
    let i = c.loop-grid.grid-index in
    let ss = c.args.grids.now in
    let s = c.grid-item.result in
    let x = slice_index c.args.source.now p in
    let y = slice_index c.args.target.now p in
    let inside : p < length c.loop-grid.target = omega (arith, lt, c.patch_grid.ensures.len) in
    c.patch_grid.ensures.bytes p inside
    ∙ ap (cond (in_grid s p) x) (c.loop-grid.invariant p inside)
    ∙ put_both (in_grids (take i ss) p) (in_grid s p) x y
    ∙ ap (λ t. cond t x y) (sym (take_more ss i s p c.loop-grid-test.true c.grid-item.is))
