use Rattle.std.proofs.Common.{◌≡◌, ◌++◌, map, take}
use Rattle.std.specs.Prelude.{◌+ℤ◌}
use Rattle.nd_index.proofs.offsets.ways.push_further.Given as goal

abbrev pub invariant-loop-way : goal.invariant-loop-way
invariant-loop-way l = l.out.items ≡ l.initial.out.items ++ map (λ z. l.by +ℤ z) (take l.way-index l.ways)
