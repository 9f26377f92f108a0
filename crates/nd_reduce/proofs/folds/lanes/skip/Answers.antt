use Rattle.std.proofs.Common.{ℤ, List, ◌∙◌, arith}
use Rattle.nd_ufunc.specs.Loops.Sides.{numbers_on}
use Rattle.nd_reduce.proofs.folds.Taken.{length-numbers, left_more}
use Rattle.nd_reduce.proofs.folds.lanes.skip.Goals as goal

pub loop-done-preserved : goal.loop-done-preserved
loop-done-preserved c =
    let is = c.loop-done.invariant in let zs : List ℤ = c.args.numbers.now.numbers in let n = c.min-passed.result in
    let front : List ℤ = numbers_on c.take.result n in record {
      within = omega (arith, c.min-passed.ensures, c.loop-done-test.true);
      left = left_more zs c.loop-done.numbers.numbers front c.take.new.self.numbers c.loop-done.done n is.left c.take.ensures.split (length-numbers c.take.result n);
      size = c.take.ensures.kind ∙ is.size;
    }
