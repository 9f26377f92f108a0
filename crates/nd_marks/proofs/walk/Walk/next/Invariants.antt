use Rattle.std.proofs.Common.{◌≡◌, ◌+◌, ◌-◌, ◌*◌, ◌^◌, length}
use Rattle.nd_marks.specs.Kept.{left_of}
use Rattle.nd_marks.proofs.walk.Walk.next.Given as goal

abbrev pub invariant-loop-range : goal.invariant-loop-range
invariant-loop-range l = left_of l.self-inside ≡ l.fn.self

abbrev pub decreases-loop-range : goal.decreases-loop-range
decreases-loop-range l = (length l.self-inside.grids.now - l.self-inside.next) * 2 ^ 64 + (l.self-inside.grid.lines - l.self-inside.line)
