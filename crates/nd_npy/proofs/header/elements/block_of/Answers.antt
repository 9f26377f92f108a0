use Rattle.std.proofs.Common.{◌≡◌, ◌∙◌, sym, ap, subst}
use Rattle.std.proofs.lemmas.Result.{IfOk-weaker}
use Rattle.nd_npy.specs.Header.Gives.{is_plain, elements_block}
use Rattle.nd_npy.proofs.header.Plain.{plain_block}
use Rattle.nd_npy.proofs.header.Turned.{fortran_block, c_block}
use Rattle.nd_npy.proofs.header.elements.block_of.Goals as goal

pub returns-then-fortran : goal.returns-then-fortran
returns-then-fortran c =
    let g = c.args.view.now in let bytes = c.args.elements.now in
    IfOk-weaker _ _ _ (λ b is. subst (λ f. b ≡ elements_block g.element f g.shape bytes) (sym c.if-fortran.true)
    (fortran_block g.element g.shape bytes c.in_ok-file.file b c.in_ok-file.ensures is)) c.copy_elements.ensures

pub returns-then-is_plain : goal.returns-then-is_plain
returns-then-is_plain c =
    let g = c.args.view.now in let bytes = c.args.elements.now in
    let plain = ap is_plain (sym c.elem.ensures) ∙ sym c.is_plain.ensures ∙ c.if-is_plain.true in
    IfOk-weaker c.from_slice.result (λ b. b ≡ bytes) (λ b. b ≡ elements_block g.element c.args.fortran g.shape bytes) (λ b is. is ∙ subst (λ f. bytes ≡ elements_block g.element f g.shape bytes) (sym c.if-fortran.false)
    (plain_block g.element g.shape bytes plain c.type_inv.elements c.requires.len)) c.from_slice.ensures

pub returns : goal.returns
returns c =
    let g = c.args.view.now in let bytes = c.args.elements.now in
    IfOk-weaker _ _ _ (λ b is. subst (λ f. b ≡ elements_block g.element f g.shape bytes) (sym c.if-fortran.false) (c_block g bytes b c.requires.alone is)) c.copy_elements-2.ensures
