use Rattle.std.proofs.Common.{◌∙◌, ap, arith}
use Rattle.std.proofs.lemmas.Grind.{common_steps}
use Rattle.nd_marks.specs.Marks.{page_at, pages_of}
use Rattle.nd_marks.proofs.Paging.{page_pushed}
use Rattle.nd_marks.proofs.pages.extend_pages.Goals as goal

pub loop-preserved : goal.loop-preserved
loop-preserved c = record {
  same = λ k. ap (λ vs. page_at (pages_of vs) k) c.in_ok-push.ensures.items ∙ page_pushed c.loop.pages.items c.new.result k c.new.ensures.items ∙ c.loop.invariant.same k;
  long = grind (arith, common_steps);
}
