use Rattle.std.proofs.Common.{◌≡◌, map}
use Rattle.std.specs.Prelude.{pos, ◌+ℤ◌, ◌*ℤ◌}
use Rattle.std.specs.List.{flat_map}
use Rattle.nd_model.specs.Arrays.Tuple.{count_up}
use Rattle.nd_index.proofs.offsets.ways.widen.Given as goal

abbrev pub invariant-loop-index : goal.invariant-loop-index
invariant-loop-index l = l.wider.items ≡ flat_map (λ k. map (λ z. (pos k *ℤ l.stride) +ℤ z) l.ways) (count_up 0 l.index)
