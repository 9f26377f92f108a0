use Rattle.std.proofs.Common.{◌≡◌, ◌∙◌, ◌*◌, ap}
use Rattle.nd_model.specs.Formats.NpyReading.{split}
use Rattle.nd_model.specs.Arrays.Tuple.{elements_of}
use Rattle.nd_model.specs.Arrays.View.{Geo, item_size, contiguous}
use Rattle.nd_npy.specs.Header.Gives.{header_from, elements_block}
use Rattle.nd_npy.proofs.header.Made.{array_given}
use Rattle.nd_npy.proofs.header.elements.elements_in.Goals as goal

pub returns : goal.returns
returns c =
    let h = header_from c.args.header in let bytes = c.args.bytes.now in
    let elements = c.in_ok-elements.elements.now in
    let count : c.element_count.result * c.size.result ≡ elements_of h.shape * item_size h.element
    = (λ i. (c.element_count.ensures ∙ ap elements_of c.deref.ensures.value) i * c.size.ensures.value i) in
    let view : c.in_ok-view.view ≡ contiguous h.element h.shape = c.in_ok-view.ensures ∙ ap (contiguous h.element) c.deref-2.ensures.value in
    array_given h bytes elements c.in_ok-elements.field-0-1.now (record { view = c.in_ok-view.view; block = c.in_ok-block.block })
    (c.in_ok-elements.ensures ∙ ap (λ n. split n bytes) count) view
    (c.in_ok-block.ensures ∙ ap (λ (g : Geo). elements_block g.element h.fortran g.shape elements) view)
