use Rattle.std.proofs.Common.{◌≡◌, ◌++◌, ℕ, List, length, sym, ap₂, ◌∙◌, subst, IfOk}
use Rattle.nd_model.specs.Formats.NpyWriting as model
use Rattle.nd_model.specs.Arrays.Tuple.{elements_of}
use Rattle.nd_convert.proofs.conversion.InOrder.{copied_block}
use Rattle.nd_npy.proofs.writing.file.write_npy.Goals as goal

pub returns-in-Some : goal.returns-in-Some
returns-in-Some c =
    let g = c.args.view.now in
    let same : length g.places ≡ elements_of g.shape = sym c.count-count.ensures.value ∙ c.count-count.ensures.elements in
    let front = ap₂ model.npy_front c.elem.ensures c.shape.ensures.value in
    let elements = c.in-Some.ensures ∙ copied_block g.element g.shape c.args.block.now g.places same in
    subst (λ (l : List ℕ). IfOk c.write_elements.result (λ v. v.items ≡ l)) (ap₂ (λ xs ys. xs ++ ys) front elements) c.write_elements.ensures

pub returns : goal.returns
returns c =
    let front = ap₂ model.npy_front c.elem-2.ensures c.shape-2.ensures.value in
    let elements = c.as_slice.ensures ∙ c.in_ok-elements.ensures in
    subst (λ (l : List ℕ). IfOk c.write_elements-2.result (λ v. v.items ≡ l)) (ap₂ (λ xs ys. xs ++ ys) front elements) c.write_elements-2.ensures
