use Rattle.std.proofs.Common.{◌≡◌, ◌-◌, ◌≤◌, ◌++◌, length, map, slice_index}
use Rattle.nd_marks.specs.Kept.{rows_left}
use Rattle.nd_marks.proofs.bytes.append_each.Given as goal

abbrev pub invariant-loop-number : goal.invariant-loop-number
invariant-loop-number l = record {
  within : l.number ≤ l.strip.count;
  buffer : length l.buffer ≡ 512;
  done : l.bytes.items ++ map (slice_index l.block) (rows_left l.strip l.number) ≡ l.fn.bytes.items ++ map (slice_index l.block) (rows_left l.strip 0);
}

abbrev pub decreases-loop-number : goal.decreases-loop-number
decreases-loop-number l = l.strip.count - l.number
