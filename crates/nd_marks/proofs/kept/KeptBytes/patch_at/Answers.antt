use Rattle.std.proofs.Common.{◌+◌, ◌-◌, ◌&&◌, cond, nat_le, nat_lt, slice_index, ap, ◌∙◌, arith}
use Rattle.nd_model.specs.Cells.Session.{is_in}
use Rattle.nd_marks.specs.Kept.{byte_of}
use Rattle.nd_marks.proofs.Walks.{enough_bytes, bytes_behind, fewer_left, put_more, put_is}
use Rattle.nd_marks.proofs.Windows.{part_byte, part_len}
use Rattle.nd_marks.proofs.kept.KeptBytes.patch_at.Goals as goal

pub split_at-requires : goal.split_at-requires
split_at-requires c = enough_bytes (byte_of c.args.self.now) c.loop-range.rest.now c.in-Some.range.from c.in-Some.range.width c.loop-range.walk c.next.new.self c.loop-range.invariant.bytes c.in-Some.ensures.split

pub loop-range-smaller : goal.loop-range-smaller
loop-range-smaller c = fewer_left c.in-Some.range.from c.in-Some.range.width c.loop-range.walk c.next.new.self c.in-Some.ensures.split c.in-Some.ensures.some

pub loop-range-preserved : goal.loop-range-preserved
loop-range-preserved c =
    let k = c.args.self.now in let f = byte_of k in let from = c.in-Some.range.from in let w = c.in-Some.range.width in let left = c.loop-range.walk in let new = c.next.new.self in
    let bs = c.loop-range.rest.now in let is = c.loop-range.invariant.bytes in let split = c.in-Some.ensures.split in
    let part = c.split_at.result.0.now in let front = c.split_at.ensures.front in
    let base = c.args.base in let long = part_len f bs part from w left new is split front in record {
      bytes = c.split_at.ensures.back ∙ bytes_behind f bs from w left new is split;
      len = c.put_overlap.ensures.len ∙ c.loop-range.invariant.len;
      put = λ i lt. put_more f (base + i) from w left new (slice_index c.loop-range.block i) (slice_index c.put_overlap.new.block i) _ (slice_index part (base + i - from)) split
          (c.put_overlap.ensures.bytes i (omega (arith, lt, c.loop-range.invariant.len)) ∙ ap (λ n. cond (nat_le from (base + i) && nat_lt (base + i) (from + n)) (slice_index part (base + i - from)) (slice_index c.loop-range.block i)) long)
          (λ lo hi. part_byte f bs part from w left new (base + i) is split front lo hi)
          (c.loop-range.invariant.put i lt);
    }

pub returns-clause-bytes : goal.returns-clause-bytes
returns-clause-bytes c = λ i lt. let p = c.args.base + i in put_is c.args.self.now p (slice_index c.loop-range.block i) (slice_index c.args.block.now i) (is_in p c.loop-range.walk) (ap (is_in p) c.in_default.ensures) (c.loop-range.invariant.put i lt)
