use Rattle.std.proofs.Common.{◌≡◌, ◌++◌, map, slice_index}
use Rattle.nd_marks.specs.Kept.{rows_left}
use Rattle.nd_marks.proofs.bytes.append_wide.Given as goal

abbrev pub invariant-loop-number : goal.invariant-loop-number
invariant-loop-number l = l.bytes.items ++ map (slice_index l.block) (rows_left l.strip l.number) ≡ l.fn.bytes.items ++ map (slice_index l.block) (rows_left l.strip 0)
