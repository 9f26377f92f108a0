use Rattle.std.proofs.Common.{pos, ap, ◌∙◌}
use Rattle.nd_index.specs.Offsets.RowPlaces.{places_beside, way_on}
use Rattle.nd_places.specs.Near.{rows_places}
use Rattle.nd_index.proofs.advanced.Forms.{all_rows}
use Rattle.nd_index.proofs.advanced.by_rows.places_by_rows.Goals as goal

pub returns : goal.returns
returns c =
    let kept = c.args.kept.now in let axes = c.args.axes.now in
    let ways = rw c.in-Some.is at c.in_ok-ways.ensures in
    let starts = rw c.in-Some-2.is at c.in_ok-starts.ensures in
    c.of_rows.ensures ∙ ap (rows_places c.in-Some-2.starts.items) ways.0
    ∙ all_rows c.in-Some-2.starts.items kept.behind.now kept.before.now c.as_slice.result.now (way_on axes) (pos kept.offset) starts.1
    ∙ ap (places_beside kept axes) (c.as_slice.ensures.value ∙ c.in_ok-numbers.ensures)
