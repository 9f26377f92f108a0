use Rattle.std.proofs.Common.{◌≡◌, ℕ, ◌+◌, ◌-◌, map, unwrap_or, arith}
use Rattle.nd_marks.specs.Kept.{byte_for, kept_at, places_in}
use Rattle.nd_marks.proofs.Walks.{fewer_left}
use Rattle.nd_marks.proofs.Windows.{window_behind, window_front, window_put, window_within}
use Rattle.nd_marks.proofs.kept.overwrite_bytes.Goals as goal

pub overflow_add-end : goal.overflow_add-end
overflow_add-end c = omega (arith, window_within (byte_for (places_in c.args.marks.now) c.args.bytes.now) c.loop-range.bytes c.loop-range.at c.in-Some.range.from c.in-Some.range.width c.loop-range.walk c.next.new.self c.in-Some.ensures.split c.loop-range.invariant.within c.loop-range.invariant.rest)

pub slice_bounds-patch_at-end : goal.slice_bounds-patch_at-end
slice_bounds-patch_at-end c = window_within (byte_for (places_in c.args.marks.now) c.args.bytes.now) c.loop-range.bytes c.loop-range.at c.in-Some.range.from c.in-Some.range.width c.loop-range.walk c.next.new.self c.in-Some.ensures.split c.loop-range.invariant.within c.loop-range.invariant.rest

pub loop-range-smaller : goal.loop-range-smaller
loop-range-smaller c = fewer_left c.in-Some.range.from c.in-Some.range.width c.loop-range.walk c.next.new.self c.in-Some.ensures.split c.in-Some.ensures.some

pub loop-range-preserved : goal.loop-range-preserved
loop-range-preserved c =
    let ps = places_in c.args.marks.now in let f = byte_for ps c.args.bytes.now in let h = λ (p x : ℕ). unwrap_or (kept_at c.args.other.now p) x in
    let xs = c.loop-range.bytes in let ys = c.patch_at.new.block in let at = c.loop-range.at in let from = c.in-Some.range.from in let w = c.in-Some.range.width in let left = c.loop-range.walk in let new = c.next.new.self in
    let split = c.in-Some.ensures.split in let within = c.loop-range.invariant.within in let rest = c.loop-range.invariant.rest in
    let n : at + w - at ≡ w = omega arith in record {
      within = window_put f h xs ys at from w (at + w - at) left new n split within rest c.patch_at.ensures.len c.patch_at.ensures.bytes;
      front = window_front f h xs ys at from w (at + w - at) left new n split within rest c.patch_at.ensures.len c.patch_at.ensures.bytes (map (λ p. h p (f p)) ps) c.loop-range.invariant.front;
      rest = window_behind f h xs ys at from w (at + w - at) left new n split within rest c.patch_at.ensures.len c.patch_at.ensures.bytes;
    }
