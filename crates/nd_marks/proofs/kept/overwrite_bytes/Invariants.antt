use Rattle.std.proofs.Common.{◌≡◌, ◌≤◌, ◌++◌, drop, length, map, take, unwrap_or}
use Rattle.nd_marks.specs.Kept.{byte_for, kept_at, places_in}
use Rattle.nd_marks.proofs.kept.overwrite_bytes.Given as goal

abbrev pub invariant-loop-range : goal.invariant-loop-range
invariant-loop-range l = record {
  within : l.at ≤ length l.bytes;
  front : take l.at l.bytes ++ map (λ p. unwrap_or (kept_at l.other p) (byte_for (places_in l.marks) l.fn.bytes p)) l.walk ≡ map (λ p. unwrap_or (kept_at l.other p) (byte_for (places_in l.marks) l.fn.bytes p)) (places_in l.marks);
  rest : drop l.at l.bytes ≡ map (byte_for (places_in l.marks) l.fn.bytes) l.walk;
}

abbrev pub decreases-loop-range : goal.decreases-loop-range
decreases-loop-range l = length l.walk
