use Rattle.std.proofs.Common.{rules, ℕ, ℤ, pos, List, get_or, sym, ◌∙◌}
use Rattle.std.specs.Int.{w128, cast_signed, cast_unsigned}
use Rattle.std.specs.Int.RustNames.{FitsSigned}
use Rattle.std.specs.Prelude.{unsigned_abs}
use mir.Facts.{to_z-of_z}
use Rattle.nd_model.specs.Arrays.Strides.{places_by}
use Rattle.nd_assign.proofs.Gridded.{grid_is, stride_is}
use Rattle.nd_assign.proofs.grid.one_grid.Goals as goal

pub returns : goal.returns
returns c =
    let strides : List ℤ = c.held_strides-strides.result.now in let shape : List ℕ = c.shape-shape.result.now in
    let s : ℤ = get_or strides 0 (pos 0) in let f : FitsSigned w128 s = search rules in let across : ℤ = cast_signed w128 (cast_unsigned w128 s) in
    let t : ℤ = get_or strides 1 (pos 0) in let g : FitsSigned w128 t = search rules in let along : ℤ = cast_signed w128 (cast_unsigned w128 t) in
    grid_is c.args.view.now.places shape strides c.offset.result
    (c.held_strides-strides.ensures.places ∙ (λ i. places_by (sym c.offset.ensures i) strides (sym c.shape-shape.ensures.value i)))
    (unsigned_abs across) (unsigned_abs along) c.if-shape-ne2.false c.if-strides-ne2.false
    (stride_is s across (to_z-of_z f) c.if-across-lt0.false) (stride_is t along (to_z-of_z g) c.if-along-lt0.false)
