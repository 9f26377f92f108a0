use Rattle.std.proofs.Common.{◌≡◌, ℕ, List, length, sym, ◌∙◌, subst}
use Rattle.std.specs.Prelude.{IfOk}
use Rattle.nd_model.specs.Arrays.Tuple.{elements_of}
use Rattle.nd_convert.proofs.conversion.InOrder.{converted_block}
use Rattle.nd_assign.proofs.rewriting.convert_to_block.Goals as goal

pub returns-in_default : goal.returns-in_default
returns-in_default c =
    let a = c.args in let g = a.source.now in
    let count : length g.places ≡ elements_of g.shape = sym c.count-count.ensures.value ∙ c.count-count.ensures.elements in
    subst (λ (l : List ℕ). IfOk c.convert_numbers.result (λ b. b ≡ l)) (sym (converted_block a.dtypes.to a.dtypes.from g.shape a.bytes.now g.places count)) c.convert_numbers.ensures

pub returns : goal.returns
returns c =
    let a = c.args in let g = a.source.now in
    let count : length g.places ≡ elements_of g.shape = sym c.count-count.ensures.value ∙ c.count-count.ensures.elements in
    subst (λ (l : List ℕ). IfOk c.convert_numbers-2.result (λ b. b ≡ l)) (sym (converted_block a.dtypes.to a.dtypes.from g.shape a.bytes.now g.places count)) c.convert_numbers-2.ensures
