use Rattle.std.proofs.Common.{◌≡◌, ◌-◌, ◌^◌, length, map, min, take}
use Rattle.std.specs.List.{sum}
use Rattle.nd_heap.specs.Contents.{bytes_in}
use Rattle.nd_session.proofs.session.change.change.weigh.Given as goal

abbrev pub invariant-loop-i : goal.invariant-loop-i
invariant-loop-i l = l.bytes ≡ min (sum (map (λ e. length (bytes_in e.1)) (take l.i l.blocks.entries))) (2 ^ 64 - 1)
