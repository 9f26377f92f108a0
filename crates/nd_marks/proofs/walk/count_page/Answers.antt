use Rattle.std.proofs.Common.{◌+◌, ◌≤◌, ◌∙◌, ap₂, sym, count_ones, slice_index, arith}
use lib.Count.{ones-le}
use Rattle.nd_marks.proofs.Counted.{page_counted, words_counted}
use Rattle.nd_marks.proofs.walk.count_page.Goals as goal

pub overflow_add-count : goal.overflow_add-count
overflow_add-count c =
    let few : count_ones (slice_index c.args.words.now c.loop-at.at) ≤ 64 = ones-le 64 (slice_index c.args.words.now c.loop-at.at) (omega (arith, c.type_inv.words c.loop-at.at)) in
    omega (arith, few, c.loop-at.invariant.most, c.from-count.ensures, c.loop-at-test.true, c.min-at-end.ensures)

pub loop-at-preserved : goal.loop-at-preserved
loop-at-preserved c =
    let few : count_ones (slice_index c.args.words.now c.loop-at.at) ≤ 64 = ones-le 64 (slice_index c.args.words.now c.loop-at.at) (omega (arith, c.type_inv.words c.loop-at.at)) in
    record {
      is = ap₂ (λ a b. a + b) c.loop-at.invariant.is c.from-count.ensures ∙ sym (words_counted c.args.words.now c.loop-at.at (omega (arith, c.type_inv.words c.loop-at.at)));
      most = omega (arith, few, c.loop-at.invariant.most, c.from-count.ensures);
    }

pub returns : goal.returns
returns c = c.loop-at.invariant.is ∙ page_counted c.args.words.now c.loop-at.at (omega (arith, c.min-at-end.ensures, c.loop-at-test.false, c.loop-at.auto.at-end))
