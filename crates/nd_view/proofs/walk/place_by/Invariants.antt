use Rattle.std.proofs.Common.{◌≡◌, drop}
use Rattle.nd_model.specs.Arrays.Strides.{place_at}
use Rattle.nd_view.specs.Paths.{IsPath}
use Rattle.nd_view.proofs.walk.place_by.Given as goal

abbrev pub invariant-loop-axis : goal.invariant-loop-axis
invariant-loop-axis l = record {
  path : IsPath l.place (drop l.axis l.strides) (drop l.axis l.index);
  same : place_at l.place (drop l.axis l.strides) (drop l.axis l.index) ≡ place_at l.offset l.strides l.index;
}
