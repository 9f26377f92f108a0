use Rattle.std.proofs.Common.{◌∙◌, ap}
use Rattle.std.specs.Prelude.{reverse}
use Rattle.std.proofs.lemmas.Result.{IfOk-weaker}
use Rattle.nd_types.specs.Types.{type_of}
use Rattle.nd_npy.proofs.header.Turned as turned
use Rattle.nd_npy.proofs.header.elements.fortran_view.Goals as goal

pub contiguous-requires : goal.contiguous-requires
contiguous-requires c =
    let g = c.args.view.now in
    turned.in_limits g.element (type_of c.in_ok-try_clone.field-0) g.shape c.deref.result.now (c.in_ok-try_clone.ensures ∙ c.elem.ensures)
    (c.deref.ensures.value ∙ c.in_ok-shape.ensures ∙ ap reverse c.shape.ensures.value) c.requires

pub returns : goal.returns
returns c =
    let g = c.args.view.now in
    IfOk-weaker _ _ _ (λ v is. turned.fortran_view g.element (type_of c.in_ok-try_clone.field-0) g.shape c.deref.result.now c.in_ok-file.file v
    (c.in_ok-try_clone.ensures ∙ c.elem.ensures) (c.deref.ensures.value ∙ c.in_ok-shape.ensures ∙ ap reverse c.shape.ensures.value) c.in_ok-file.ensures is) c.reverse_axes.ensures
