use Rattle.std.proofs.Common.{◌≡◌, map, take}
use Rattle.nd_model.specs.Arrays.Tuple.{indices}
use Rattle.nd_index.specs.Advanced.Takes.{axes_taken, takes_of}
use Rattle.nd_index.specs.Advanced.TakenWays.{way_taken}
use Rattle.nd_index.proofs.advanced.arrays.array_ways.Given as goal

abbrev pub invariant-loop-take : goal.invariant-loop-take
invariant-loop-take l = record {
  done : l.ways.items ≡ map (way_taken (takes_of (take l.take-index l.takes)) l.sizes l.strides) (indices l.many);
  axes : l.axis ≡ axes_taken (takes_of (take l.take-index l.takes));
}
