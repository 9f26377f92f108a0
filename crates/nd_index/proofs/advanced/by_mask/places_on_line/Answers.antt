use Rattle.std.proofs.Common.{map, sym, ap, ◌∙◌}
use Rattle.nd_model.specs.Indexing.Advanced.{is_nonzero, true_numbers}
use Rattle.nd_index.specs.Items.Items.{numbers_of}
use Rattle.nd_places.specs.Forms.{trues_on}
use Rattle.nd_places.specs.Near.{place_on_line}
use Rattle.nd_index.proofs.offsets.NearWays.{on_line}
use Rattle.nd_index.proofs.advanced.by_mask.places_on_line.Goals as goal

pub returns : goal.returns
returns c =
    let line = c.in-Some.line in let ks = true_numbers 0 (map is_nonzero (numbers_of c.args.mask.now)) in
    c.of_trues.ensures ∙ ap (trues_on line 0) c.in_ok-mask.ensures
    ∙ ap (λ bs. map (place_on_line line.start line.step) (true_numbers 0 bs)) (sym c.in-Some-mask_bytes.ensures.0)
    ∙ sym (on_line c.args.row.now c.args.axes.now line c.in-Some.ensures ks)
