use Rattle.std.proofs.Common.{arith}
use Rattle.nd_marks.proofs.Strips.{row_in, false_true}
use Rattle.nd_marks.proofs.bytes.is_same_rows.Goals as goal

pub returns-then-not-is_same_row : goal.returns-then-not-is_same_row
returns-then-not-is_same_row c = let r = c.args.strip.now in (
  λ h. false_true h,
  λ all. c.if-not-is_same_row.ensures.1 (λ p from to. all p (row_in r.first r.width r.step r.count c.loop-number.number p
      (omega (arith, c.loop-number-test.true, c.count-number-end.ensures)) (omega (arith, from, c.offset.ensures)) (omega (arith, to, c.offset.ensures, c.width-width.ensures)))),
)
