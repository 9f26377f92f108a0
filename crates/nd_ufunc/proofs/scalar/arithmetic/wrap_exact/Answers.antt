use Rattle.std.proofs.Common.{ap, ◌∙◌, rules}
use Rattle.std.specs.Int.{int_wrap, w128}
use mir.Facts.{to_z-of_z}
use Rattle.nd_model.proofs.LowestBits.{same_wrap}
use Rattle.nd_ufunc.proofs.scalar.Modulo.{no_boolean}
use Rattle.nd_types.specs.Kinds.{kind_of}
use Rattle.nd_ufunc.proofs.scalar.arithmetic.wrap_exact.Goals as goal

pub returns-in_default : goal.returns-in_default
returns-in_default c = λ z exact same.
    to_z-of_z {w = w128} (search rules) ∙ c.wrap-in_default.ensures.value
    ∙ same_wrap (kind_of c.args.kind) _ z (no_boolean c.args.kind c.in_default.not-Bool) (ap (int_wrap w128) (to_z-of_z c.ranges.lowest_bits) ∙ same)
