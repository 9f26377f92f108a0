use Rattle.std.proofs.Common.{◌≡◌, ◌-◌, drop}
use Rattle.std.specs.List.{list_all}
use Rattle.nd_model.specs.Indexing.Selecting.{is_within}
use Rattle.nd_model.specs.Cells.Session.{is_in}
use Rattle.nd_model.specs.Indexing.Transposing.{axes_of}
use Rattle.nd_model.specs.Arrays.Tuple.{count_up}
use Rattle.nd_shape.proofs.transposing.is_order.Given as goal

abbrev pub invariant-loop-number : goal.invariant-loop-number
invariant-loop-number l = list_all (is_within l.axes) l.order ≡ list_all (is_within l.axes) (drop l.number-index l.order)

abbrev pub invariant-loop-axis : goal.invariant-loop-axis
invariant-loop-axis l =
    list_all (λ a. is_in a (axes_of l.axes l.order)) (count_up 0 l.axes) ≡ list_all (λ a. is_in a (axes_of l.axes l.order)) (count_up l.axis (l.axes - l.axis))
