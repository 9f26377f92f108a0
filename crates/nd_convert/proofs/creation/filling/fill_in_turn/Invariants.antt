use Rattle.std.proofs.Common.{◌≡◌, ◌*◌, ◌++◌, drop, pos, slice_index_or}
use Rattle.nd_convert.specs.Creation.Numbers.{bytes_below}
use Rattle.nd_convert.proofs.creation.filling.fill_in_turn.Given as goal

abbrev pub invariant-loop-index : goal.invariant-loop-index
invariant-loop-index l = l.bytes ≡ bytes_below l.elem (λ k. slice_index_or l.fn.numbers k (pos 0)) l.index ++ drop (l.index * l.size) l.initial.bytes
