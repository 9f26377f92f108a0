use Rattle.std.proofs.Common.{◌≡◌, ◌++◌, map, slice_index}
use Rattle.nd_model.specs.Arrays.Tuple.{count_up}
use Rattle.nd_marks.proofs.kept.append_outside.Given as goal

abbrev pub invariant-loop-at : goal.invariant-loop-at
invariant-loop-at l = l.bytes.items ≡ l.fn.bytes.items ++ map (slice_index l.block) (count_up l.from l.at)
