use Rattle.std.proofs.Common.{◌≡◌, ℕ, suc, ◌-◌, ◌<◌, List, length, drop, rules, ap, ◌∙◌, arith}
use Rattle.std.specs.Prelude.{ℤ}
use Rattle.std.specs.Int.{w128}
use Rattle.std.specs.Int.RustNames.{FitsSigned}
use Rattle.std.proofs.lemmas.Int.{to_z-of_z}
use Rattle.nd_model.specs.Arrays.Tuple.{elements_of}
use Rattle.nd_model.specs.Arrays.View.{Geo, item_size}
use Rattle.nd_view.proofs.Counts.{factor}
use Rattle.nd_ufunc.specs.Elementwise.Spread.{broadcast_stride}
use Rattle.nd_ufunc.proofs.elementwise.Rows.{row_alone, rows_are}
use Rattle.nd_ufunc.proofs.elementwise.spread.row_of.Goals as goal

pub returns-then-axes-eq0-clause-rows : goal.returns-then-axes-eq0-clause-rows
returns-then-axes-eq0-clause-rows c =
    let g : Geo = c.args.view.now in
    let size : 0 < item_size g.element = omega (arith, c.size-size.ensures.range.0, c.size-size.ensures.value ∙ ap item_size c.elem.ensures) in
    row_alone g c.args.shape.now c.held_strides-strides.result.now c.requires.fits c.held_strides-strides.ensures.held c.held_strides-strides.ensures.places size

pub returns-clause-rows : goal.returns-clause-rows
returns-clause-rows c =
    let g : Geo = c.args.view.now in let shape : List ℕ = c.args.shape.now in let strides : List ℤ = c.held_strides-strides.result.now in
    let size : 0 < item_size g.element = omega (arith, c.size-size.ensures.range.0, c.size-size.ensures.value ∙ ap item_size c.elem.ensures) in
    let axis : ℕ = c.row_axes-axes.result - 1 in
    let next : suc axis ≡ c.row_axes-axes.result = omega (arith, c.if-axes-eq0.false) in
    let one : elements_of (drop (suc axis) shape) ≡ 1 = ap (λ n. elements_of (drop n shape)) next ∙ c.row_axes-axes.ensures.ones in
    let inside : axis < length shape = omega (arith, next, c.row_axes-axes.ensures.within) in
    let stride : c.broadcast_stride.result ≡ broadcast_stride g.shape strides (length shape - length g.shape) axis
    = c.broadcast_stride.ensures ∙ (λ i. broadcast_stride (c.shape-own.ensures.value i) strides (length shape - length (c.shape-own.ensures.value i)) axis) in
    let fits : FitsSigned w128 c.broadcast_stride.result = search rules in
    rw (to_z-of_z w128 c.broadcast_stride.result fits, stride)
    (rows_are g shape strides c.requires.fits c.held_strides-strides.ensures.held c.held_strides-strides.ensures.places size axis inside one)

pub returns-clause-some : goal.returns-clause-some
returns-clause-some c =
    let axis : ℕ = c.row_axes-axes.result - 1 in
    let inside : axis < length c.args.shape.now = omega (arith, c.if-axes-eq0.false, c.row_axes-axes.ensures.within) in
    λ many. (factor c.args.shape.now axis 0 many inside).0
