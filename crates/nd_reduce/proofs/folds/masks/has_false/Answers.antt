use Rattle.std.proofs.Common.{rules, ℤ, pos, FitsSigned, ap, ◌∙◌}
use Rattle.std.specs.Prelude.{int_lt}
use Rattle.std.specs.Int.{w128}
use mir.Facts.{to_z-of_z}
use Rattle.nd_reduce.proofs.folds.Truths.{false_by_bytes}
use Rattle.nd_reduce.proofs.folds.masks.has_false.Goals as goal

pub returns : goal.returns
returns c =
    let fits : FitsSigned w128 c.least_in.result = search rules in
    ap (λ (z : ℤ). int_lt z (pos 1)) (to_z-of_z fits ∙ c.least_in.ensures) ∙ false_by_bytes c.args.bytes.now c.args.count c.requires.some
