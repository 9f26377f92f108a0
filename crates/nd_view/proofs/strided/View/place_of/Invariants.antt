use Rattle.nd_model.specs.Arrays.Strides.{place_at}
use Rattle.nd_model.specs.Arrays.View.{item_size}
use Rattle.nd_view.proofs.Numbered.{tuple_of}
use Rattle.nd_view.proofs.Unravelled.{IsAt}
use Rattle.nd_view.proofs.strided.View.place_of.Given as goal

abbrev pub invariant-loop-axis : goal.invariant-loop-axis
invariant-loop-axis l =
    IsAt (item_size l.self.element) l.length-items l.strides l.axis l.each l.left l.place (place_at l.initial.place l.strides (tuple_of l.length-items l.number))
