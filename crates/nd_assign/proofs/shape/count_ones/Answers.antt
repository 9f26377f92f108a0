use Rattle.std.proofs.Common.{◌≡◌, ◌≢◌, get_or, sym, ◌∙◌, arith}
use Rattle.nd_assign.proofs.Stretched.{ones_more, ones_end, ones_none}
use Rattle.nd_assign.proofs.shape.count_ones.Goals as goal

pub loop-axis-preserved : goal.loop-axis-preserved
loop-axis-preserved c =
    let s = c.args.shape.now in let is = c.loop-axis.invariant in let axis = c.loop-axis.axis in
    let one : get_or s axis 0 ≡ 1 = omega (arith, c.if-shape-axis-eq1.true) in
    record {
      inside = omega (arith, c.if-axis-shape.true);
      few = omega (arith, c.loop-axis-test.true);
      rest = ones_more s axis c.args.most c.loop-axis-test.true c.if-axis-shape.true one ∙ is.rest;
    }

pub returns-else-shape-axis-eq1-clause-rest : goal.returns-else-shape-axis-eq1-clause-rest
returns-else-shape-axis-eq1-clause-rest c =
    let s = c.args.shape.now in let axis = c.loop-axis.axis in
    let other : get_or s axis 0 ≢ 1 = λ e. absurd (omega (arith, c.if-shape-axis-eq1.false, e)) in
    sym (ones_end s axis c.args.most c.if-axis-shape.true other) ∙ c.loop-axis.invariant.rest

pub returns-else-axis-shape-clause-rest : goal.returns-else-axis-shape-clause-rest
returns-else-axis-shape-clause-rest c = sym (ones_none c.args.shape.now c.loop-axis.axis c.args.most c.if-axis-shape.false) ∙ c.loop-axis.invariant.rest
