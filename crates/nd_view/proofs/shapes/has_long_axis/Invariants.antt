use Rattle.std.proofs.Common.{◌≡◌, ◌^◌, drop}
use Rattle.std.specs.Prelude.{nat_lt}
use Rattle.std.specs.List.{list_any}
use Rattle.nd_view.proofs.shapes.has_long_axis.Given as goal

abbrev pub invariant-loop-length : goal.invariant-loop-length
invariant-loop-length l = list_any (nat_lt (2 ^ 32)) (drop l.length-index l.shape) ≡ list_any (nat_lt (2 ^ 32)) l.shape
