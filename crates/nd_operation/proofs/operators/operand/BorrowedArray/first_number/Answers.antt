use Rattle.std.proofs.Common.{rules, ◌≡◌, ◌∙◌, sym, ap}
use Rattle.std.proofs.lemmas.Int.{to_z-of_z}
use mir.Val.{SFits}
use mir.Syntax.{w128}
use Rattle.nd_model.specs.Arrays.View.{One}
use Rattle.nd_model.specs.Arrays.Content.{number_at}
use Rattle.nd_types.specs.Types.{type_of}
use Rattle.nd_operation.proofs.operators.Decoding.{first_in}
use Rattle.nd_operation.proofs.operators.operand.BorrowedArray.first_number.Goals as goal

pub returns-in-One : goal.returns-in-One
returns-in-One c =
    let e = c.args.self.now in
    let fits : SFits w128 c.number_in.result = search rules in
    let one : e.view.now.element ≡ One c.in-One.elem = sym c.elem.ensures ∙ ap type_of c.in-One.is in
    to_z-of_z w128 c.number_in.result fits ∙ c.number_in.ensures ∙ ap (number_at c.in-One.elem e.block.now) c.offset.ensures
    ∙ first_in e.view.now c.in-One.elem e.block.now one e.held (λ none. c.if-count-ne0.true (c.count.ensures.value ∙ none))
