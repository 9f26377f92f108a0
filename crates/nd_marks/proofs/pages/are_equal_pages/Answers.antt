use Rattle.std.proofs.Common.{◌∙◌, sym, refl, arith}
use Rattle.nd_marks.proofs.Paging.{pages_more}
use Rattle.nd_marks.proofs.pages.are_equal_pages.Goals as goal

pub loop-at-preserved : goal.loop-at-preserved
loop-at-preserved c =
    let vs = c.args.pages.now in
    let us = c.args.others.now in
    pages_more vs us c.loop-at.at c.index-pages-at.result c.index-others-at.result (omega (arith, c.loop-at-test.true)) (omega (arith, c.loop-at-test.true, c.if-pages-others.false))
    c.index-pages-at.is c.index-others-at.is (sym c.deref.ensures.value ∙ c.if-not-are_equal_words.ensures refl ∙ c.deref-in-loop-at.ensures.value) c.loop-at.invariant
