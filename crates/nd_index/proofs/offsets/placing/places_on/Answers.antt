use Rattle.std.proofs.Common.{◌<◌, map, length, pos, ap, ◌∙◌, arith}
use Rattle.std.specs.List.{flat_map}
use Rattle.std.specs.Prelude.{◌+ℤ◌}
use Rattle.std.specs.Int.{w128}
use Rattle.std.proofs.lemmas.Int.{ints, fits_signed_from_abs}
use Rattle.std.proofs.lemmas.List.{take_all}
use Rattle.nd_places.specs.Near.{place_on}
use Rattle.nd_index.proofs.offsets.Rows.{block_again, near_at}
use Rattle.nd_index.proofs.offsets.placing.places_on.Goals as goal

pub overflow_add-from : goal.overflow_add-from
overflow_add-from c = fits_signed_from_abs w128 _ (omega (arith, ints, near_at c.args.before.now c.loop-way.way-index c.requires.near.0, c.from.ensures, c.ranges.offset))

pub push_rows-requires-clause-start : goal.push_rows-requires-clause-start
push_rows-requires-clause-start c = omega (arith, ints, near_at c.args.before.now c.loop-way.way-index c.requires.near.0, c.from.ensures, c.ranges.offset)

pub loop-way-preserved : goal.loop-way-preserved
loop-way-preserved c =
    let before = c.args.before.now in let k = c.loop-way.way-index in
    let lt : k < length before = omega (arith, c.loop-way-test.true) in
    block_again c.args.behind.now c.args.arrays.now before k (pos c.args.offset) _ c.loop-way.places.items c.push_rows.new.places.items lt c.in_ok-push_rows.ensures
    (omega (arith, ints, near_at before k c.requires.near.0, c.from.ensures, c.ranges.offset)) c.loop-way.invariant

pub returns : goal.returns
returns c =
    c.loop-way.invariant
    ∙ ap (flat_map (λ b. flat_map (λ a. map (λ z. place_on (((pos c.args.offset +ℤ b) +ℤ a) +ℤ z)) c.args.behind.now) c.args.arrays.now)) (take_all c.loop-way.way-index c.args.before.now (omega (arith, c.loop-way-test.false)))
