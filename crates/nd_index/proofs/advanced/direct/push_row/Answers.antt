use Rattle.std.proofs.Common.{◌≡◌, ◌++◌, map, get_or, pos, of_z, to_z, refl, subst, arith}
use Rattle.std.specs.Int.{w64, w128}
use Rattle.std.specs.Prelude.{◌+ℤ◌}
use Rattle.std.specs.Result.{OnOk}
use Rattle.std.proofs.lemmas.Int.{ints, fits_signed_from_abs}
use Rattle.nd_places.specs.Near.{IsNear}
use Rattle.nd_places.specs.Near.{place_on}
use Rattle.nd_index.proofs.offsets.Rows.{near_at, single}
use Rattle.nd_index.proofs.advanced.direct.push_row.Goals as goal

pub overflow_add-start : goal.overflow_add-start
overflow_add-start c = fits_signed_from_abs w128 _ (omega (arith, ints, c.args.row.now.start_near, c.requires))

pub overflow_add-start-then-row-eq1 : goal.overflow_add-start-then-row-eq1
overflow_add-start-then-row-eq1 c =
    let row = c.args.row.now in
    fits_signed_from_abs w128 _ (omega (arith, ints, near_at row.ways.now 0 row.each, row.start_near, c.requires))

pub overflow_cast-start : goal.overflow_cast-start
overflow_cast-start c =
    let near : IsNear (to_z w128 (of_z w128 (to_z w128 (of_z w128 c.args.row.now.start) +ℤ to_z w128 (of_z w128 c.args.way)))) = c.if-is_near.ensures.0 refl in
    fits_signed_from_abs w64 _ (omega (arith, ints, near))

pub push_places-requires-clause-start : goal.push_places-requires-clause-start
push_places-requires-clause-start c = omega (arith, ints, c.args.row.now.start_near, c.requires)

pub returns-then-row-eq1 : goal.returns-then-row-eq1
returns-then-row-eq1 c =
    let row = c.args.row.now in let ways = row.ways.now in
    let sum : to_z w128 (of_z w128 (to_z w128 (of_z w128 (to_z w128 (of_z w128 row.start) +ℤ to_z w128 (of_z w128 c.args.way))) +ℤ to_z w128 (of_z w128 (get_or ways 0 (pos 0)))))
    ≡ (row.start +ℤ c.args.way) +ℤ get_or ways 0 (pos 0)
    = omega (arith, ints, near_at ways 0 row.each, row.start_near, c.requires) in
    single ways (row.start +ℤ c.args.way) _ c.args.places.now.items c.push.new.self.items _ (omega (arith, c.if-row-eq1.true)) c.in_ok-push.ensures.items c.place_on.ensures sum

pub returns-then-is_near : goal.returns-then-is_near
returns-then-is_near c =
    let row = c.args.row.now in
    let near : IsNear (to_z w128 (of_z w128 (to_z w128 (of_z w128 row.start) +ℤ to_z w128 (of_z w128 c.args.way)))) = c.if-is_near.ensures.0 refl in
    let start : to_z w64 (of_z w64 (to_z w128 (of_z w128 (to_z w128 (of_z w128 row.start) +ℤ to_z w128 (of_z w128 c.args.way))))) ≡ row.start +ℤ c.args.way
    = omega (arith, ints, row.start_near, c.requires, near) in
    subst (λ x. OnOk c.push_near_places.result (c.push_near_places.new.places.items ≡ c.args.places.now.items ++ map (λ z. place_on (x +ℤ z)) row.ways.now)) start c.push_near_places.ensures
