use Rattle.std.proofs.Common.{◌≡◌, ◌<◌, ◌++◌, [], ◌∷◌, length, get_or, pos, to_z, of_z, refl, sym, subst, ap, ◌∙◌, arith, rules}
use Rattle.std.specs.Int.{w64, w128}
use Rattle.std.specs.Int.RustNames.{FitsSigned}
use Rattle.std.proofs.lemmas.Int.{ints, fits_signed_from_abs, to_z-of_z}
use Rattle.std.proofs.lemmas.List.{take_more}
use Rattle.nd_places.specs.Near.{IsNear}
use Rattle.nd_index.proofs.advanced.Forms.{near_pushed}
use Rattle.nd_index.proofs.advanced.by_rows.near_ways.Goals as goal

pub overflow_cast-way : goal.overflow_cast-way
overflow_cast-way c =
    let near : IsNear (to_z w128 (of_z w128 (get_or c.args.ways.now c.loop-way.way-index (pos 0)))) = c.if-not-is_near.ensures.0 refl in
    fits_signed_from_abs w64 _ (omega (arith, ints, near))

pub loop-way-preserved : goal.loop-way-preserved
loop-way-preserved c =
    let ways = c.args.ways.now in let k = c.loop-way.way-index in
    let lt : k < length ways = omega (arith, c.loop-way-test.true) in
    let fits : FitsSigned w128 (get_or ways k (pos 0)) = search rules in
    let here : IsNear (get_or ways k (pos 0)) = subst IsNear (to_z-of_z w128 (get_or ways k (pos 0)) fits) (c.if-not-is_near.ensures.0 refl) in
    let same : to_z w64 (of_z w64 (to_z w128 (of_z w128 (get_or ways k (pos 0))))) ≡ get_or ways k (pos 0) = omega (arith, ints, here) in
    let pushed = c.in_ok-push.ensures.items ∙ ap (λ x. c.loop-way.near.items ++ x ∷ []) same in
    record {
      same = pushed ∙ ap (λ l. l ++ get_or ways k (pos 0) ∷ []) c.loop-way.invariant.same ∙ sym (take_more ways k (pos 0) lt);
      near = near_pushed c.loop-way.near.items c.push.new.self.items (get_or ways k (pos 0)) pushed here c.loop-way.invariant.near;
    }
