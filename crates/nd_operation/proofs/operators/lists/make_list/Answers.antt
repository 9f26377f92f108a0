use Rattle.std.proofs.Common.{map, option_map, sym, ap, ◌∙◌}
use Rattle.nd_model.specs.Making.Creation.{shape_of_element}
use Rattle.nd_model.specs.Arrays.Tuple.{elements_of}
use Rattle.nd_syntax.specs.Trees.Calls.{dtype_of}
use Rattle.nd_operation.specs.Operators.Listing.{list_of, numbers_in}
use Rattle.nd_operation.specs.Operators.Contents.{unused_of}
use Rattle.nd_operation.specs.Refusals.Faults.{fault_of}
use Rattle.nd_operation.proofs.operators.Creating.{new_memory, new_refused}
use Rattle.nd_operation.proofs.operators.Listing.{count_is, even_has, list_over}
use Rattle.nd_operation.proofs.operators.lists.make_list.Goals as goal

pub list_array-requires-clause-count : goal.list_array-requires-clause-count
list_array-requires-clause-count c =
    let x = list_of c.args.elements.now in
    c.requires ∙ count_is (shape_of_element x) x (even_has x (shape_of_element x) c.in_ok-check_even.ensures)
    ∙ ap elements_of (sym (c.deref-2.ensures ∙ c.in_ok-shape.ensures))

pub returns-in_err-shape : goal.returns-in_err-shape
returns-in_err-shape c = new_memory _ _ c.from_residual-in_err-shape.ensures.1

pub returns-in_err-check_limits : goal.returns-in_err-check_limits
returns-in_err-check_limits c =
    let x = list_of c.args.elements.now in
    let vs = c.args.values.now in
    let f = c.in_err-check_limits.field-0.0 in
    new_refused _ f _ c.from_residual-in_err-check_limits.ensures.1
    (list_over x (option_map dtype_of c.args.dtype.now) (map unused_of vs) (numbers_in vs) (shape_of_element x) c.in_ok-elem.elem (fault_of f) c.in_ok-check_numbers.ensures c.in_ok-check_even.ensures
    c.in_ok-elem.ensures (rw (c.size.ensures.value, c.deref.ensures, c.in_ok-shape.ensures) at c.in_err-check_limits.ensures))
