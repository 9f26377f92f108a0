use Rattle.std.proofs.Common.{◌≡◌, map, take}
use Rattle.nd_model.specs.Indexing.Advanced.{unravelled}
use Rattle.nd_model.specs.Arrays.Strides.{way_to}
use Rattle.nd_index.proofs.offsets.ways.ways_to.Given as goal

abbrev pub invariant-loop-number : goal.invariant-loop-number
invariant-loop-number l = l.ways.items ≡ map (λ k. way_to (unravelled l.lengths k) l.strides) (take l.number-index l.numbers)
