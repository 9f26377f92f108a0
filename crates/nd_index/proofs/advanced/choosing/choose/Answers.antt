use Rattle.std.proofs.Common.{◌≤◌, length, ap, ◌∙◌, arith}
use Rattle.std.proofs.lemmas.List.{length-map}
use Rattle.nd_model.specs.Arrays.Tuple.{elements_of, indices}
use Rattle.nd_model.proofs.Gathered.{place_few}
use Rattle.nd_view.proofs.Indexed.{length-indices}
use Rattle.nd_index.specs.Items.Items.{items_of}
use Rattle.nd_index.specs.Advanced.Takes.{takes_of}
use Rattle.nd_index.proofs.advanced.Chosen.{length-chosen}
use Rattle.nd_index.proofs.advanced.Spreads.{length-kept_shape}
use Rattle.nd_index.proofs.advanced.choosing.choose.Goals as goal

pub chosen_shape-requires : goal.chosen_shape-requires
chosen_shape-requires c =
    omega (arith, place_few (items_of c.args.items.now) (takes_of c.args.takes.now) c.shape.result.now, c.place_for-at.ensures, ap length (c.as_slice.ensures ∙ c.in_ok-kept.ensures))

pub all_places-requires-clause-kept : goal.all_places-requires-clause-kept
all_places-requires-clause-kept c =
    let is = items_of c.args.items.now in let ts = takes_of c.args.takes.now in
    let kept = ap length (c.as_slice.ensures ∙ c.in_ok-kept.ensures) in
    let le : c.place_for-at.result ≤ length c.as_slice.result.now = omega (arith, place_few is ts c.shape.result.now, c.place_for-at.ensures, kept) in
    omega (
      arith,
      ap length (c.as_slice-3.ensures ∙ c.in_ok-shape.ensures),
      length-chosen c.place_for-at.result c.args.many.now c.as_slice.result.now le,
      kept,
      length-kept_shape ts c.shape.result.now,
    )

pub all_places-requires-clause-at : goal.all_places-requires-clause-at
all_places-requires-clause-at c =
    omega (arith, place_few (items_of c.args.items.now) (takes_of c.args.takes.now) c.shape.result.now, c.place_for-at.ensures, length-kept_shape (takes_of c.args.takes.now) c.shape.result.now)

pub returns-clause-count : goal.returns-clause-count
returns-clause-count c = ap length c.in_ok-places.ensures.value ∙ length-map (indices c.as_slice-3.result.now) _ ∙ length-indices c.as_slice-3.result.now ∙ ap elements_of c.as_slice-3.ensures
