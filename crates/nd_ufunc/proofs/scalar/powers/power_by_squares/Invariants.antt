use Rattle.std.proofs.Common.{◌≡◌, ◌*ℤ◌}
use Rattle.std.specs.Int.{int_pow, int_wrap, w64}
use Rattle.nd_ufunc.proofs.scalar.powers.power_by_squares.Given as goal

-- the power so far, with what is left
abbrev pub invariant-loop-left : goal.invariant-loop-left
invariant-loop-left l = int_wrap w64 (int_pow l.square l.left *ℤ l.power) ≡ int_wrap w64 (int_pow l.fn.base l.fn.exponent)

abbrev pub decreases-loop-left : goal.decreases-loop-left
decreases-loop-left l = l.left
