use Rattle.std.proofs.Common.{arith}
use Rattle.nd_marks.proofs.Strips.{row_in, false_true}
use Rattle.nd_marks.proofs.bytes.is_same_strip.Goals as goal

pub returns-then-not-is_same_range : goal.returns-then-not-is_same_range
returns-then-not-is_same_range c = let r = c.args.strip.now in (
  λ h. false_true h,
  λ all. c.if-not-is_same_range.ensures.1 (λ p from to. all p (row_in r.first r.width r.step r.count c.loop-number.number p
      (omega (arith, c.loop-number-test.true, c.count-number-end.ensures)) (omega (arith, from, c.start-from.ensures.value)) (omega (arith, to, c.start-from.ensures.value, c.width.ensures, c.from-width.ensures)))),
)
