use Rattle.std.proofs.Common.{◌≡◌, drop}
use Rattle.nd_model.specs.Cells.Session.{is_in}
use Rattle.nd_model.specs.Indexing.Transposing.{axes_of}
use Rattle.nd_shape.proofs.transposing.has_axis.Given as goal

abbrev pub invariant-loop-number : goal.invariant-loop-number
invariant-loop-number l = is_in l.axis (axes_of l.axes l.order) ≡ is_in l.axis (axes_of l.axes (drop l.number-index l.order))
