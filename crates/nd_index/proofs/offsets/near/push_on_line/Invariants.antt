use Rattle.std.proofs.Common.{◌≡◌, ◌++◌, map, take}
use Rattle.std.specs.Prelude.{pos, ◌+ℤ◌, ◌*ℤ◌}
use Rattle.nd_places.specs.Near.{place_on}
use Rattle.nd_index.proofs.offsets.near.push_on_line.Given as goal

abbrev pub invariant-loop-number : goal.invariant-loop-number
invariant-loop-number l = l.places.items ≡ l.initial.places.items ++ map (λ k. place_on (l.line.start +ℤ (pos k *ℤ l.line.step))) (take l.number-index l.numbers)
