use Rattle.std.proofs.Common.{◌<◌, ◌≤◌, ◌+◌, ◌*◌, ◌++◌, ◌∙◌, length, slice_index, ap, ap₂, arith}
use Rattle.nd_model.specs.Arrays.Element.{bytes_at}
use Rattle.nd_marks.proofs.Walks.{row_added, taken_range}
use Rattle.nd_marks.proofs.bytes.append_wide.Goals as goal

pub loop-number-preserved : goal.loop-number-preserved
loop-number-preserved c =
    let s = c.args.strip.now in let k = c.loop-number.number in let xs = c.args.block.now in let old = c.loop-number.bytes.items in
    let lt : k < s.count = omega (arith, c.loop-number-test.true, c.count-number-end.ensures) in
    let le : s.first + k * s.step + s.width ≤ length xs = c.requires k lt in
    row_added (slice_index xs) s k old c.append_row.new.bytes.items _ lt
    (c.in_ok-append_row.ensures ∙ ap (λ ys. old ++ ys) (ap₂ (bytes_at xs) c.offset.ensures c.width.ensures ∙ taken_range xs (s.first + k * s.step) s.width le))
    c.loop-number.invariant
