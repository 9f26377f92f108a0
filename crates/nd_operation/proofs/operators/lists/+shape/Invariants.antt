use Rattle.std.proofs.Common.{◌≡◌, map, drop}
use Rattle.nd_model.specs.Grammar.Cells.{elements_of}
use Rattle.nd_model.specs.Making.Creation.{have_shape, shape_of_element}
use Rattle.nd_syntax.specs.Trees.Syntax.{element_of}
use Rattle.nd_operation.proofs.operators.lists.+shape.Given as goal

abbrev pub invariant-list_has_shape_of-loop-element : goal.invariant-list_has_shape_of-loop-element
invariant-list_has_shape_of-loop-element l =
    let lengths = shape_of_element (element_of l.first) in
    have_shape lengths (elements_of (map element_of l.elements)) ≡ have_shape lengths (elements_of (map element_of (drop l.element-index l.elements)))
