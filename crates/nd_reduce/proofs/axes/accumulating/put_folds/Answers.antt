use Rattle.std.proofs.Common.{◌≡◌, ℕ, List, length, sym, ap, ◌∙◌, subst}
use Rattle.std.specs.Prelude.{IfOk}
use Rattle.nd_model.specs.Arrays.Tuple.{elements_of}
use Rattle.nd_model.specs.Arrays.View.{Geo}
use Rattle.nd_convert.specs.Conversion.Converted.{converted_bytes}
use Rattle.nd_convert.proofs.conversion.InOrder.{converted_block}
use Rattle.nd_reduce.proofs.axes.accumulating.put_folds.Goals as goal

pub returns : goal.returns
returns c =
    let a = c.args in let v : Geo = c.in_ok-view.view in let e = a.elem in
    let same : length v.places ≡ elements_of v.shape = sym c.count-count.ensures.value ∙ c.count-count.ensures.elements in
    subst (λ (l : List ℕ). IfOk c.convert_numbers.result (λ b. b ≡ l))
    (sym (converted_block e e v.shape a.folds.now v.places same) ∙ ap (λ (w : Geo). converted_bytes e e a.folds.now w.places) c.in_ok-view.ensures)
    c.convert_numbers.ensures
