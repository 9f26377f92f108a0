use Rattle.std.proofs.Common.{rules, ◌≡◌, get_or, ap, ◌∙◌}
use Rattle.std.specs.Prelude.{pos, ◌+ℤ◌, ◌*ℤ◌}
use Rattle.std.specs.Int.{w128}
use Rattle.std.specs.Int.RustNames.{FitsSigned}
use Rattle.std.proofs.lemmas.Int.{to_z-of_z}
use Rattle.nd_view.proofs.Extents.{goes}
use Rattle.nd_view.proofs.walk.place_by.Goals as goal

pub loop-axis-preserved : goal.loop-axis-preserved
loop-axis-preserved c =
    let step = goes c.loop-axis.place c.args.strides.now c.args.index.now c.loop-axis.axis c.loop-axis-test.true c.loop-axis.invariant.path in
    let fits : FitsSigned w128 (get_or c.args.strides.now c.loop-axis.axis (pos 0)) = search rules in
    let here : pos c.shift_place-place.result ≡ pos step.to
    = c.shift_place-place.ensures ∙ ap (λ z. pos c.loop-axis.place +ℤ (pos (get_or c.args.index.now c.loop-axis.axis 0) *ℤ z)) (to_z-of_z w128 _ fits) ∙ step.is in
    let to : c.shift_place-place.result ≡ step.to = cc in
    rw to (record { path = step.path; same = step.same ∙ c.loop-axis.invariant.same })
