use Rattle.std.proofs.Common.{◌≡◌, [], ◌∷◌, get_or, pos, to_z, of_z, refl, sym, ap, ◌∙◌, arith}
use Rattle.std.specs.Prelude.{◌+ℤ◌, ◌*ℤ◌}
use Rattle.std.specs.Int.{w64, w128}
use Rattle.std.proofs.lemmas.Int.{ints, fits_signed_from_abs}
use Rattle.nd_index.specs.Offsets.RowPlaces.{way_on}
use Rattle.nd_places.specs.Near.{IsNear}
use Rattle.nd_places.specs.Near.{place_on}
use Rattle.nd_index.proofs.offsets.NearWays.{joined}
use Rattle.nd_index.proofs.offsets.Rows.{near_at, alone}
use Rattle.nd_index.proofs.offsets.near.line_of.Goals as goal

pub overflow_add-start : goal.overflow_add-start
overflow_add-start c = fits_signed_from_abs w128 _ (omega (arith, ints, near_at c.args.row.now.ways.now 0 c.args.row.now.each, c.args.row.now.start_near))

pub invariant_of-result : goal.invariant_of-result
invariant_of-result c =
    let row = c.args.row.now in
    let near : IsNear (to_z w128 (of_z w128 (to_z w128 (of_z w128 row.start) +ℤ to_z w128 (of_z w128 (get_or row.ways.now 0 (pos 0)))))) = c.if-not-is_near.ensures.0 refl in
    let even = c.args.axes.now.even c.in_ok-step.step c.in_ok-step.was in
    record {
      start_near = omega (arith, ints, near);
      step_near = omega (arith, ints, even.0);
    }

pub returns : goal.returns
returns c = λ k.
    let row = c.args.row.now in let axes = c.args.axes.now in let first = get_or row.ways.now 0 (pos 0) in
    let even = axes.even c.in_ok-step.step c.in_ok-step.was in
    let near : IsNear (to_z w128 (of_z w128 (to_z w128 (of_z w128 row.start) +ℤ to_z w128 (of_z w128 first)))) = c.if-not-is_near.ensures.0 refl in
    let start : to_z w64 (of_z w64 (to_z w128 (of_z w128 (to_z w128 (of_z w128 row.start) +ℤ to_z w128 (of_z w128 first))))) ≡ row.start +ℤ first
    = omega (arith, ints, near_at row.ways.now 0 row.each, row.start_near, near) in
    let step : to_z w64 (of_z w64 c.in_ok-step.step) ≡ c.in_ok-step.step = omega (arith, ints, even.0) in
    let same : pos k *ℤ to_z w64 (of_z w64 c.in_ok-step.step) ≡ way_on axes k = ap (λ t. pos k *ℤ t) step ∙ sym (even.1 k) in
    let sum : (row.start +ℤ way_on axes k) +ℤ first
    ≡ to_z w64 (of_z w64 (to_z w128 (of_z w128 (to_z w128 (of_z w128 row.start) +ℤ to_z w128 (of_z w128 first))))) +ℤ (pos k *ℤ to_z w64 (of_z w64 c.in_ok-step.step))
    = joined row.start (way_on axes k) first _ _ start same in
    alone (λ z. place_on ((row.start +ℤ way_on axes k) +ℤ z)) row.ways.now c.if-row-ne1.false ∙ ap (λ y. place_on y ∷ []) sum
