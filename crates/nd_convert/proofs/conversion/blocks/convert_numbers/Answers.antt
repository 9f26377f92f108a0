use Rattle.std.proofs.Common.{◌≡◌, List, ℕ, sym, ◌∙◌, subst}
use Rattle.std.specs.Prelude.{IfOk}
use Rattle.nd_convert.proofs.conversion.InOrder.{converted_block}
use Rattle.nd_convert.proofs.conversion.blocks.convert_numbers.Goals as goal

pub returns : goal.returns
returns c =
    let a = c.args in let g = a.view.now in
    subst (λ (l : List ℕ). IfOk c.convert_view.result (λ b. b ≡ l)) (converted_block a.to a.from g.shape a.bytes.now g.places (sym c.count-count.ensures.value ∙ c.count-count.ensures.elements)) c.convert_view.ensures
