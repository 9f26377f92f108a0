use Rattle.std.proofs.Common.{◌≡◌, ◌+◌, ◌-◌, ◌&&◌, cond, length, nat_le, nat_lt, slice_index, ap, ◌∙◌, arith}
use Rattle.nd_model.specs.Cells.Session.{is_in}
use Rattle.nd_marks.specs.Kept.{byte_of}
use Rattle.nd_marks.proofs.Walks.{enough_bytes, bytes_behind, byte_here, length_here, fewer_left, put_more, put_is}
use Rattle.nd_marks.proofs.kept.KeptBytes.patch.Goals as goal

pub split_at-requires : goal.split_at-requires
split_at-requires c = enough_bytes (byte_of c.args.self.now) c.loop-range.rest.now c.in-Some.range.from c.in-Some.range.width c.loop-range.walk c.next.new.self c.loop-range.invariant.bytes c.in-Some.ensures.split

pub loop-range-smaller : goal.loop-range-smaller
loop-range-smaller c = fewer_left c.in-Some.range.from c.in-Some.range.width c.loop-range.walk c.next.new.self c.in-Some.ensures.split c.in-Some.ensures.some

pub loop-range-preserved : goal.loop-range-preserved
loop-range-preserved c =
    let k = c.args.self.now in let f = byte_of k in let from = c.in-Some.range.from in let w = c.in-Some.range.width in let new = c.next.new.self in
    let is = c.loop-range.invariant.bytes in let split = c.in-Some.ensures.split in
    let front = c.split_at.ensures.front in
    let e = ap length front ∙ length_here f c.loop-range.rest.now from w c.loop-range.walk new is split in record {
      bytes = c.split_at.ensures.back ∙ bytes_behind f c.loop-range.rest.now from w c.loop-range.walk new is split;
      len = c.put_range.ensures.len ∙ c.loop-range.invariant.len;
      put = λ p lt. put_more f p from w c.loop-range.walk new (slice_index c.loop-range.block p) (slice_index c.put_range.new.block p) _ (slice_index c.split_at.result.0.now (p - from)) split
          (c.put_range.ensures.bytes p (omega (arith, lt, c.loop-range.invariant.len)) ∙ ap (λ n. cond (nat_le from p && nat_lt p (from + n)) (slice_index c.split_at.result.0.now (p - from)) (slice_index c.loop-range.block p)) e)
          (λ lo hi. ap (λ xs. slice_index xs (p - from)) front ∙ byte_here f c.loop-range.rest.now from w c.loop-range.walk new (p - from) is split (omega arith) ∙ (let back : from + (p - from) ≡ p = omega arith in ap f back))
          (c.loop-range.invariant.put p lt);
    }

pub returns-clause-bytes : goal.returns-clause-bytes
returns-clause-bytes c = λ p lt. put_is c.args.self.now p (slice_index c.loop-range.block p) (slice_index c.args.block.now p) (is_in p c.loop-range.walk) (ap (is_in p) c.in_default.ensures) (c.loop-range.invariant.put p lt)
