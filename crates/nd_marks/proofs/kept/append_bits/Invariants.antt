use Rattle.std.proofs.Common.{◌≡◌, ◌++◌, length, map, slice_index}
use Rattle.nd_marks.specs.Kept.{bits_left}
use Rattle.nd_marks.specs.Marks.{pages_of}
use Rattle.nd_marks.proofs.kept.append_bits.Given as goal

abbrev pub invariant-loop-range : goal.invariant-loop-range
invariant-loop-range l = l.bytes.items ++ map (slice_index l.block) (bits_left (pages_of l.pages) l.at) ≡ l.fn.bytes.items ++ map (slice_index l.block) (bits_left (pages_of l.pages) 0)

abbrev pub decreases-loop-range : goal.decreases-loop-range
decreases-loop-range l = length (bits_left (pages_of l.pages) l.at)
