use Rattle.std.proofs.Common.{◌≡◌, ◌<◌, ◌++◌, map, length, get_or, pos, to_z, of_z, ◌∙◌, arith, take_all}
use Rattle.std.specs.Prelude.{◌+ℤ◌}
use Rattle.std.specs.Int.{w64, w128}
use Rattle.std.proofs.lemmas.Int.{ints, fits_signed_from_abs, to_z-of_z}
use Rattle.nd_places.specs.Near.{place_on}
use Rattle.nd_index.proofs.offsets.Rows.{place_again}
use Rattle.nd_index.proofs.offsets.near.push_near_places.Goals as goal

pub overflow_cast-way : goal.overflow_cast-way
overflow_cast-way c =
    let near = c.requires.near c.loop-way.way-index (pos 0) (omega (arith, c.loop-way-test.true)) in
    fits_signed_from_abs w64 _ (omega (arith, ints, near))

pub overflow_add-start : goal.overflow_add-start
overflow_add-start c =
    let near = c.requires.near c.loop-way.way-index (pos 0) (omega (arith, c.loop-way-test.true)) in
    fits_signed_from_abs w64 _ (omega (arith, ints, near, c.requires.start))

pub loop-way-preserved : goal.loop-way-preserved
loop-way-preserved c =
    let ways = c.args.ways.now in let k = c.loop-way.way-index in let start = c.args.start in
    let lt : k < length ways = omega (arith, c.loop-way-test.true) in
    let sum : to_z w64 (of_z w64 (to_z w64 (of_z w64 start) +ℤ to_z w64 (of_z w64 (to_z w128 (of_z w128 (get_or ways k (pos 0))))))) ≡ to_z w64 (of_z w64 start) +ℤ get_or ways k (pos 0)
    = omega (arith, ints, c.requires.near k (pos 0) lt, c.requires.start) in
    place_again ways k (to_z w64 (of_z w64 start)) _ c.args.places.now.items c.loop-way.places.items c.push.new.self.items _ lt c.in_ok-push.ensures.items c.near_place.ensures
    sum c.loop-way.invariant

pub returns : goal.returns
returns c =
    c.loop-way.invariant
    ∙ (λ i. c.args.places.now.items ++ map (λ z. place_on (to_z-of_z w64 c.args.start c.ranges.start i +ℤ z)) (take_all c.loop-way.way-index c.args.ways.now (omega (arith, c.loop-way-test.false)) i))
