use Rattle.std.proofs.Common.{◌∙◌, slice_index, ap, arith}
use Rattle.std.proofs.lemmas.Grind.{common_steps}
use Rattle.nd_marks.proofs.Bits.{grown}
use Rattle.nd_marks.proofs.pages.fill_page.Goals as goal

pub loop-preserved : goal.loop-preserved
loop-preserved c = record {
  same = λ q. ap (λ ws. slice_index ws q) c.in_ok-push.ensures.items ∙ grown c.loop.words.items q ∙ c.loop.invariant.same q;
  long = grind (arith, common_steps);
}
