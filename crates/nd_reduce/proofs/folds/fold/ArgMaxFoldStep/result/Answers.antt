use Rattle.std.proofs.Common.{rules, pos, FitsSigned, ap, ◌∙◌}
use Rattle.std.specs.Int.{w64, w128, cast_signed}
use mir.Facts.{to_z-of_z}
use Rattle.nd_model.specs.Arrays.Element.{residue}
use Rattle.nd_reduce.proofs.folds.fold.ArgMaxFoldStep.result.Goals as goal

pub returns : goal.returns
returns c = λ zs short h.
    let ff : FitsSigned w128 c.from.result = search rules in let fw : FitsSigned w128 c.wrap.result = search rules in
    to_z-of_z fw ∙ c.wrap.ensures.value ∙ ap (λ z. cast_signed w64 (residue w64 z)) (to_z-of_z ff ∙ c.from.ensures ∙ ap pos (h short).at)
