use Rattle.std.proofs.Common.{◌<◌, ◌++◌, ◌∙◌, map, slice_index, ap₂, arith}
use Rattle.nd_model.specs.Arrays.Tuple.{count_up}
use Rattle.nd_marks.proofs.Walks.{row_added}
use Rattle.nd_marks.proofs.kept.append_strip.Goals as goal

pub loop-number-preserved : goal.loop-number-preserved
loop-number-preserved c =
    let s = c.args.strip.now in let k = c.loop-number.number in let xs = c.args.block.now in let old = c.loop-number.bytes.items in
    let lt : k < s.count = omega (arith, c.loop-number-test.true, c.count-number-end.ensures) in
    row_added (slice_index xs) s k old c.append_range.new.bytes.items _ lt
    (c.in_ok-append_range.ensures ∙ ap₂ (λ a n. old ++ map (slice_index xs) (count_up a n)) c.start.ensures.value c.width.ensures)
    c.loop-number.invariant
