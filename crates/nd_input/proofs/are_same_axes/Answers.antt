use Rattle.std.proofs.Common.{◌≡◌, Bool, true, false, refl, sym, ◌∙◌}
use Rattle.std.specs.Prelude.{not}
use Rattle.std.specs.Cmp.Lexicographic.{pointwise_decides, bytes_decides}
use Rattle.std.proofs.lemmas.Bool.Decides.{Decides-int_eq}
use Rattle.nd_input.proofs.are_same_axes.Goals as goal

not_false : (b : Bool) → not b ≡ false → b ≡ true
not_false true e = refl
not_false false e = cc

pub returns : goal.returns
returns c =
    let shapes = bytes_decides c.args.a_shape.now c.args.b_shape.now in
    let strides = pointwise_decides Decides-int_eq c.args.a_strides.now c.args.b_strides.now in (
      λ yes. (shapes.0 (not_false _ (sym c.ne.ensures ∙ c.if-ne.false)), strides.0 (sym c.eq.ensures ∙ yes)),
      λ e. c.eq.ensures ∙ strides.1 e.1,
    )
