use Rattle.std.proofs.Common.{◌==◌, ap, sym, ◌∙◌}
use Rattle.nd_model.specs.Making.Creation.{shape_of_element}
use Rattle.nd_model.specs.Arrays.Tuple.{elements_of}
use Rattle.nd_operation.specs.Operators.Listing.{list_of}
use Rattle.nd_operation.proofs.operators.Listing.{first_is_empty}
use Rattle.nd_operation.proofs.operators.lists.+has_no_element.Goals as goal

pub returns-in-Nested : goal.returns-in-Nested
returns-in-Nested t c =
    let a = c.in-Some in
    c.has_no_element.ensures
    ∙ ap (λ es. elements_of (shape_of_element (list_of es)) == 0) c.as_slice.ensures.value
    ∙ sym (first_is_empty c.args.elements.now a.first.now a.field-0-1.now a.ensures.cases.0 a.ensures.cases.1 c.in-Nested.elements c.in-Nested.is)
