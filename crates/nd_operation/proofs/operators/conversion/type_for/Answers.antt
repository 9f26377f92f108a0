use Rattle.std.proofs.Common.{Ok, option_map, sym, ap, ◌∙◌}
use Rattle.nd_model.specs.Making.Creation.{type_for}
use Rattle.nd_syntax.specs.Trees.Calls.{dtype_of}
use Rattle.nd_operation.specs.Operators.Contents.{elements_over}
use Rattle.nd_operation.proofs.operators.Converting.{own_type}
use Rattle.nd_operation.proofs.operators.conversion.type_for.Goals as goal

pub returns-in_default : goal.returns-in_default
returns-in_default c =
    let g = c.args.elements.now.view.now in
    ap (λ d. type_for (option_map dtype_of d) (elements_over c.args.elements.now.is_row g c.args.elements.now.block.now)) c.in_default.is ∙ own_type g.element
    ∙ ap Ok (sym (c.in_ok-try_clone.ensures ∙ c.elem-own.ensures))
