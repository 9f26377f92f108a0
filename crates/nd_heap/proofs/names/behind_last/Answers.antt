use Rattle.std.proofs.Common.{◌<◌, ◌≡◌, ◌+◌, ◌-◌, not, nat_eq, length, slice_index_or, true, subst, arith}
use Rattle.std.proofs.lemmas.Bool.Decides.{nat_tests}
use Rattle.nd_heap.specs.Layers.{LieElsewhere}
use Rattle.nd_heap.proofs.Marks.{nowhere, one_elsewhere, both_elsewhere, mark_read}
use Rattle.nd_heap.proofs.names.behind_last.Goals as goal

pub returns-then-end-marks-clause-elsewhere : goal.returns-then-end-marks-clause-elsewhere
returns-then-end-marks-clause-elsewhere c = nowhere c.args.marks.now c.args.mark c.args.end

pub loop-i-preserved : goal.loop-i-preserved
loop-i-preserved c =
    let marks = c.args.marks.now in
    let at = c.loop-i.i - 1 in
    let inside : at < length marks = omega (arith, c.loop-i-test.true, c.loop-i.auto.i, c.skip_rows-start.ensures.within, c.if-end-marks.false) in
    let other : not (nat_eq (slice_index_or marks at 0) c.args.mark) ≡ true = grind (arith, nat_tests, c.if-marks-i.false) in
    both_elsewhere marks c.args.mark at (at + 1) c.args.end
    (one_elsewhere marks c.args.mark at _ (mark_read marks at inside) other)
    (subst (λ j. LieElsewhere marks c.args.mark j c.args.end) (omega (arith, c.loop-i-test.true)) c.loop-i.invariant)
