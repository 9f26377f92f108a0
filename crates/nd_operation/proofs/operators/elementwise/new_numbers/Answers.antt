use Rattle.std.proofs.Common.{◌≡◌, [], length, FitsSigned, sym, ap, ◌∙◌, rules}
use Rattle.std.specs.Prelude.{◌==◌}
use Rattle.std.specs.Int.{w128}
use mir.Facts.{to_z-of_z}
use Rattle.nd_model.specs.Arrays.View.{One}
use Rattle.nd_types.specs.Types.{type_of}
use Rattle.nd_operation.proofs.operators.NumberArrays.{array_lies, gives_lone, no_axes, operand_lone, operand_many, some_axes}
use Rattle.nd_operation.proofs.operators.elementwise.new_numbers.Goals as goal

pub returns-then-is_empty-clause-gives : goal.returns-then-is_empty-clause-gives
returns-then-is_empty-clause-gives c n is =
    let fits : FitsSigned w128 c.load-number.result = search rules in
    let none : c.args.view.shape ≡ [] = no_axes c.args.view.shape c.is_empty.result (c.is_empty.ensures ∙ ap (λ s. length s == 0) c.shape.ensures.value) c.if-is_empty.true in
    let typed : c.args.view.element ≡ One c.in-One.elem = sym c.elem.ensures ∙ ap type_of c.in-One.is in
    gives_lone n c.args.view c.args.block is c.in-One.elem _ _ none typed c.kind.ensures (to_z-of_z fits ∙ c.load-number.ensures.value)

pub returns-then-is_empty-clause-operand : goal.returns-then-is_empty-clause-operand
returns-then-is_empty-clause-operand c n is =
    let fits : FitsSigned w128 c.load-number.result = search rules in
    let none : c.args.view.shape ≡ [] = no_axes c.args.view.shape c.is_empty.result (c.is_empty.ensures ∙ ap (λ s. length s == 0) c.shape.ensures.value) c.if-is_empty.true in
    let typed : c.args.view.element ≡ One c.in-One.elem = sym c.elem.ensures ∙ ap type_of c.in-One.is in
    operand_lone n c.args.view c.args.block is c.in-One.elem _ _ none typed c.kind.ensures (to_z-of_z fits ∙ c.load-number.ensures.value)

pub returns-clause-operand : goal.returns-clause-operand
returns-clause-operand c n is =
    let some = some_axes c.args.view.shape c.is_empty.result (c.is_empty.ensures ∙ ap (λ s. length s == 0) c.shape.ensures.value) c.if-is_empty.false in
    operand_many n c.args.view c.args.block is some.0 some.1 (sym (ap (λ g. g.shape) is.view) ∙ some.2)

pub returns-clause-lies : goal.returns-clause-lies
returns-clause-lies c = array_lies c.requires.0 c.args.view c.args.block c.requires.1
