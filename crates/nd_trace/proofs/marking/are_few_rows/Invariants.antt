use Rattle.std.proofs.Common.{◌≡◌, ◌≤◌, length}
use Rattle.nd_trace.proofs.marking.are_few_rows.Given as goal

abbrev pub invariant-loop-place : goal.invariant-loop-place
invariant-loop-place l = l.rows ≤ 8

abbrev pub invariant-loop-part : goal.invariant-loop-part
invariant-loop-part l = record { many : length l.some ≡ 512; few : l.rows ≤ 8 }

abbrev pub decreases-loop-part : goal.decreases-loop-part
decreases-loop-part l = length l.walk
