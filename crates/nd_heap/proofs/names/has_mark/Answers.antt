use Rattle.std.proofs.Common.{◌<◌, ◌+◌, not, nat_eq, length, slice_index_or, ap, arith}
use Rattle.std.proofs.lemmas.Bool.{or_parts}
use Rattle.nd_heap.proofs.Marks.{nowhere, one_elsewhere, both_elsewhere, fewer_elsewhere, mark_read}
use Rattle.nd_heap.proofs.names.has_mark.Goals as goal

pub loop-i-init : goal.loop-i-init
loop-i-init c = λ none. nowhere c.args.marks.now c.args.mark c.args.from

pub loop-i-preserved : goal.loop-i-preserved
loop-i-preserved c = λ none.
    let marks = c.args.marks.now in
    let parts = or_parts c.loop-i.is_there (nat_eq (slice_index_or marks c.loop-i.i 0) c.args.mark) none in
    let inside : c.loop-i.i < length marks = omega (arith, c.loop-i-test.true, c.requires) in
    both_elsewhere marks c.args.mark c.args.from c.loop-i.i (c.loop-i.i + 1) (c.loop-i.invariant parts.0)
    (one_elsewhere marks c.args.mark c.loop-i.i _ (mark_read marks c.loop-i.i inside) (ap not parts.1))

pub returns : goal.returns
returns c = λ none. fewer_elsewhere c.args.marks.now c.args.mark c.args.from c.loop-i.i c.args.to (omega (arith, c.loop-i-test.false)) (c.loop-i.invariant none)
