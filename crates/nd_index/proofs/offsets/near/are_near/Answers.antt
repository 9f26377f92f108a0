use Rattle.std.proofs.Common.{◌<◌, length, get_or, pos, refl, subst, arith, rules, take_all}
use Rattle.std.specs.List.{All}
use Rattle.std.specs.Int.{w128}
use Rattle.std.specs.Int.RustNames.{FitsSigned}
use Rattle.std.proofs.lemmas.Int.{to_z-of_z}
use Rattle.nd_places.specs.Near.{IsNear}
use Rattle.nd_index.proofs.offsets.NearWays.{near_more}
use Rattle.nd_index.proofs.offsets.near.are_near.Goals as goal

pub loop-way-preserved : goal.loop-way-preserved
loop-way-preserved c =
    let ways = c.args.ways.now in let k = c.loop-way.way-index in
    let lt : k < length ways = omega (arith, c.loop-way-test.true) in
    let fits : FitsSigned w128 (get_or ways k (pos 0)) = search rules in
    let here : IsNear (get_or ways k (pos 0)) = subst IsNear (to_z-of_z w128 (get_or ways k (pos 0)) fits) (c.if-not-is_near.ensures.0 refl) in
    near_more ways k lt here c.loop-way.invariant

pub returns : goal.returns
returns c = (λ yes. subst (All IsNear) (take_all c.loop-way.way-index c.args.ways.now (omega (arith, c.loop-way-test.false))) c.loop-way.invariant, λ all. refl)
