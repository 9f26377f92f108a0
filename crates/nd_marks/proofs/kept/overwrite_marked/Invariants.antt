use Rattle.std.proofs.Common.{◌≡◌, ◌≤◌, ◌++◌, cond, drop, length, map, slice_index, take}
use Rattle.nd_marks.specs.Kept.{byte_for, places_in}
use Rattle.nd_marks.specs.Marks.{holds}
use Rattle.nd_marks.proofs.kept.overwrite_marked.Given as goal

abbrev pub invariant-loop-range : goal.invariant-loop-range
invariant-loop-range l = record {
  within : l.at ≤ length l.bytes;
  front : take l.at l.bytes ++ map (λ p. cond (holds l.marks p) (slice_index l.block p) (byte_for (places_in l.places) l.fn.bytes p)) l.walk ≡ map (λ p. cond (holds l.marks p) (slice_index l.block p) (byte_for (places_in l.places) l.fn.bytes p)) (places_in l.places);
  rest : drop l.at l.bytes ≡ map (byte_for (places_in l.places) l.fn.bytes) l.walk;
}

abbrev pub decreases-loop-range : goal.decreases-loop-range
decreases-loop-range l = length l.walk
