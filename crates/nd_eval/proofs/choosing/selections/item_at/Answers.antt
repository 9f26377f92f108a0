use Rattle.std.proofs.Common.{map, sym, ap, ◌∙◌}
use Rattle.std.specs.Option.{option_map}
use Rattle.nd_model.specs.Indexing.Advanced.{array_item}
use Rattle.nd_model.specs.Arrays.Content.{content_at}
use Rattle.nd_model.specs.Cells.Fault.{Index, NotAnIndex}
use Rattle.nd_model.specs.Indexing.Index.{item_of, item_or}
use Rattle.nd_index.specs.Items.Items as fancy
use Rattle.nd_heap.specs.Values.{base_of, geo_of}
use Rattle.nd_session.specs.Session.Live.{live}
use Rattle.nd_eval.specs.Choosing.Indexing.{index_operand}
use Rattle.nd_eval.proofs.choosing.Used.{array_item_used}
use Rattle.nd_eval.proofs.choosing.selections.item_at.Goals as goal

pub returns-in-Some-clause-item : goal.returns-in-Some-clause-item
returns-in-Some-clause-item c =
    let a = c.in-Array.array in
    let g = geo_of a in
    let bytes = (live c.args.session.now).bytes in
    ap (λ v. item_of (index_operand bytes v)) c.in-Array.is
    ∙ ap (λ o. item_or o (Index NotAnIndex)) (array_item_used g (bytes (base_of a.base))
    ∙ (λ i. array_item g.element g.shape (map (content_at g.element (sym c.bytes.ensures i)) g.places)) ∙ sym c.of_array.ensures ∙ ap (option_map fancy.item_of) c.in-Some.is)
