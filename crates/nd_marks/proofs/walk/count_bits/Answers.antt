use Rattle.std.proofs.Common.{◌*◌, ◌+◌, ◌∙◌, length, sym, ap}
use Rattle.std.specs.List.{filter}
use Rattle.nd_model.specs.Arrays.Tuple.{count_up}
use Rattle.nd_marks.specs.Marks.{has_bit, in_page, pages_of}
use Rattle.nd_marks.proofs.Counted.{pages_counted, sum_cut}
use Rattle.nd_marks.proofs.walk.count_bits.Goals as goal

pub loop-page-preserved : goal.loop-page-preserved
loop-page-preserved c =
    let before = length (filter (has_bit (pages_of c.args.pages.now)) (count_up 0 (c.loop-page.page-index * 32768))) in
    sum_cut before c.count_page.result c.loop-page.count c.saturating_add.result c.min-count.result c.args.most _ c.loop-page.invariant c.saturating_add.ensures c.min-count.ensures c.ranges.most.fits
    (pages_counted c.args.pages.now c.loop-page.page-index c.page-item.result c.loop-page-test.true c.page-item.is ∙ ap (λ n. before + n) (sym (c.count_page.ensures ∙ ap (λ ws. length (filter (in_page ws) (count_up 0 32768))) c.as_slice.ensures.value)))
