use Rattle.std.proofs.Common.{◌<◌, ◌++◌, map, length, to_z, of_z, ◌∙◌, arith}
use Rattle.std.specs.Int.{w128}
use Rattle.std.specs.List.{flat_map}
use Rattle.std.specs.Prelude.{◌+ℤ◌}
use Rattle.std.proofs.lemmas.Int.{ints, fits_signed_from_abs, to_z-of_z}
use Rattle.std.proofs.lemmas.List.{take_all}
use Rattle.nd_places.specs.Near.{place_on}
use Rattle.nd_index.proofs.offsets.Rows.{row_again, near_at}
use Rattle.nd_index.proofs.offsets.placing.push_rows.Goals as goal

pub overflow_add-start : goal.overflow_add-start
overflow_add-start c = fits_signed_from_abs w128 _ (omega (arith, ints, near_at c.args.arrays.now c.loop-array.array-index c.requires.near.0, c.requires.start))

pub push_places-requires-clause-start : goal.push_places-requires-clause-start
push_places-requires-clause-start c = omega (arith, ints, near_at c.args.arrays.now c.loop-array.array-index c.requires.near.0, c.requires.start)

pub loop-array-preserved : goal.loop-array-preserved
loop-array-preserved c =
    let arrays = c.args.arrays.now in let k = c.loop-array.array-index in
    let lt : k < length arrays = omega (arith, c.loop-array-test.true) in
    row_again c.args.ways.now arrays k (to_z w128 (of_z w128 c.args.start)) _ c.args.places.now.items c.loop-array.places.items c.push_places.new.places.items lt c.in_ok-push_places.ensures
    (omega (arith, ints, near_at arrays k c.requires.near.0, c.requires.start)) c.loop-array.invariant

pub returns : goal.returns
returns c =
    c.loop-array.invariant
    ∙ (λ i. c.args.places.now.items
    ++ flat_map (λ a. map (λ z. place_on ((to_z-of_z w128 c.args.start c.ranges.start i +ℤ a) +ℤ z)) c.args.ways.now) (take_all c.loop-array.array-index c.args.arrays.now (omega (arith, c.loop-array-test.false)) i))
