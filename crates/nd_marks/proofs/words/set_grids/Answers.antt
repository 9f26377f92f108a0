use Rattle.std.proofs.Common.{◌||◌, ◌∙◌, take, sym, ap}
use Rattle.nd_marks.specs.Marks.{has_bit, in_grid, in_grids, pages_of}
use Rattle.nd_marks.proofs.Spans.{grids_all}
use Rattle.nd_marks.proofs.Strips.{or_assoc, take_more}
use Rattle.nd_marks.proofs.words.set_grids.Goals as goal

pub loop-grid-preserved : goal.loop-grid-preserved
loop-grid-preserved c = λ p.
    let ss = c.args.grids.now in
    let i = c.loop-grid.grid-index in
    let s = c.grid-item.result in
    let h = has_bit (pages_of c.args.pages.now.items) p in
    c.in_ok-set_grid.ensures p ∙ ap (λ b. b || in_grid s p) (c.loop-grid.invariant p)
    ∙ sym (or_assoc h (in_grids (take i ss) p) (in_grid s p))
    ∙ ap (λ t. h || t) (sym (take_more ss i s p c.loop-grid-test.true c.grid-item.is))

pub returns : goal.returns
returns c = λ p. c.loop-grid.invariant p ∙ ap (λ t. has_bit (pages_of c.args.pages.now.items) p || t) (grids_all c.args.grids.now c.loop-grid.grid-index p c.loop-grid-test.false)
