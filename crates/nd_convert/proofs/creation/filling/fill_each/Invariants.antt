use Rattle.std.proofs.Common.{◌≡◌, ◌*◌, ◌++◌, length, drop}
use Rattle.nd_convert.specs.Creation.Numbers.{bytes_of_copies}
use Rattle.nd_convert.proofs.creation.filling.fill_each.Given as goal

abbrev pub invariant-loop-index : goal.invariant-loop-index
invariant-loop-index l = (length l.bytes ≡ length l.initial.bytes) × (l.bytes ≡ bytes_of_copies l.elem l.fn.number l.index ++ drop (l.index * l.size) l.initial.bytes)
