use Rattle.std.proofs.Common.{◌<◌, length, pos, arith}
use Rattle.std.proofs.lemmas.Int.{ints}
use Rattle.nd_index.specs.Offsets.RowPlaces.{way_on}
use Rattle.nd_index.specs.Advanced.IndexNumbers.{numbers_in}
use Rattle.nd_index.proofs.offsets.Rows.{near_at}
use Rattle.nd_index.proofs.advanced.SoleArrays.{direct_more}
use Rattle.nd_index.proofs.advanced.direct.each_place.Goals as goal

pub loop-way-preserved : goal.loop-way-preserved
loop-way-preserved c =
    let kept = c.args.kept.now in let before = kept.before.now in let k = c.loop-way.way-index in
    let lt : k < length before = omega (arith, c.loop-way-test.true) in
    direct_more (numbers_in c.args.numbers.now) (way_on c.args.axes.now) kept.behind.now before k (pos kept.offset) _ c.loop-way.places.items c.push_chosen.new.places.items lt c.in_ok-push_chosen.ensures
    (omega (arith, ints, near_at before k kept.first)) c.loop-way.invariant
