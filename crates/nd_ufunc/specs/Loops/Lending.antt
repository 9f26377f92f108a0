-- Numbers that are lent where they lie.
use Rattle.std.specs.Prelude.{ℤ, List}
use Rattle.nd_ufunc.specs.Loops.Sides.{HasNumbers, numbers_on}
use Rattle.nd_ufunc.specs.declared.loops.lent.Lent.TheInside.{Inside}

-- those that are left
abbrev pub lent_left : Inside → List ℤ
lent_left l = numbers_on l.side l.count

-- so many are there
abbrev pub IsLent : Inside → Type 0
IsLent l = HasNumbers l.side l.count
