-- The numbers of an argument that are still to be taken, in order.
use Rattle.std.specs.Prelude.{ℕ, ℤ, List}
use Rattle.nd_model.specs.Arrays.Element.{size_of}
use Rattle.nd_ufunc.specs.declared.loops.feed.Feed.{Feed}
use Rattle.nd_ufunc.specs.declared.loops.feed.Feed.TheVariants.{Number, LaidOut, Cycle, Lent, All}

abbrev pub numbers_left : Feed → List ℤ
numbers_left (Number zs) = zs
numbers_left (LaidOut l) = l.numbers
numbers_left (Cycle c) = c.numbers
numbers_left (Lent l) = l
numbers_left (All e) = e.numbers

-- the size of those that are converted; one that stands for all and those that are lent take no room
abbrev pub size_left : Feed → ℕ
size_left (Number zs) = 1
size_left (LaidOut l) = size_of l.kind
size_left (Cycle c) = size_of c.kind
size_left (Lent l) = 1
size_left (All e) = size_of e.kind
