use Rattle.std.proofs.Common.{◌≡◌, ◌-◌, ◌^◌, length, map, min, take}
use Rattle.std.specs.List.{sum}
use Rattle.nd_session.specs.Session.Now.{kept_in}
use Rattle.nd_session.proofs.session.change.change.weigh_parts.Given as goal

abbrev pub invariant-loop-i : goal.invariant-loop-i
invariant-loop-i l = l.bytes ≡ min (sum (map (λ e. length (kept_in e.1).bytes) (take l.i l.parts.entries))) (2 ^ 64 - 1)
