use Rattle.std.proofs.Common.{◌≡◌, ◌<◌, ◌++◌, map, length, get_or, pos, to_z, of_z, ◌∙◌, arith}
use Rattle.std.specs.Int.{w128}
use Rattle.std.specs.Prelude.{◌+ℤ◌}
use Rattle.std.proofs.lemmas.Int.{ints, fits_signed_from_abs, to_z-of_z}
use Rattle.std.proofs.lemmas.List.{take_all}
use Rattle.nd_places.specs.Near.{place_on}
use Rattle.nd_index.proofs.offsets.Rows.{place_again, near_at}
use Rattle.nd_index.proofs.offsets.placing.push_places.Goals as goal

pub overflow_add-start : goal.overflow_add-start
overflow_add-start c = fits_signed_from_abs w128 _ (omega (arith, ints, near_at c.args.ways.now c.loop-way.way-index c.requires.near, c.requires.start))

pub loop-way-preserved : goal.loop-way-preserved
loop-way-preserved c =
    let ways = c.args.ways.now in let k = c.loop-way.way-index in
    let lt : k < length ways = omega (arith, c.loop-way-test.true) in
    let sum : to_z w128 (of_z w128 (to_z w128 (of_z w128 c.args.start) +ℤ to_z w128 (of_z w128 (get_or ways k (pos 0))))) ≡ to_z w128 (of_z w128 c.args.start) +ℤ get_or ways k (pos 0)
    = omega (arith, ints, near_at ways k c.requires.near, c.requires.start) in
    place_again ways k (to_z w128 (of_z w128 c.args.start)) _ c.args.places.now.items c.loop-way.places.items c.push.new.self.items _ lt c.in_ok-push.ensures.items c.place_on.ensures
    sum c.loop-way.invariant

pub returns : goal.returns
returns c =
    c.loop-way.invariant
    ∙ (λ i. c.args.places.now.items ++ map (λ z. place_on (to_z-of_z w128 c.args.start c.ranges.start i +ℤ z)) (take_all c.loop-way.way-index c.args.ways.now (omega (arith, c.loop-way-test.false)) i))
