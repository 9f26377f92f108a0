use Rattle.std.proofs.Common.{◌≡◌, ◌+◌, ◌-◌, slice_index, ap₂, ◌∙◌, arith}
use Rattle.nd_marks.proofs.Walks.{put_bytes}
use Rattle.nd_marks.proofs.kept.put_range.Goals as goal
use borrow.Rule.Slice.PartMut.{put_mid}

pub returns-clause-bytes : goal.returns-clause-bytes
returns-clause-bytes c = λ p lt. let xs = c.args.block.now in let ys = c.args.bytes.now in let a = c.min-from.result in let n = c.min-count.result in
    let e : a + n - a ≡ n = omega arith in
    ap₂ (λ n zs. slice_index (put_mid a n xs zs) p) e c.copy_from_slice.ensures.after
    ∙ put_bytes xs ys c.args.from a n p c.min-from.ensures c.min-count.ensures lt
