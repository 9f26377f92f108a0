use Rattle.std.proofs.Common.{rules, pos, ◌*ℤ◌, FitsSigned, ap, ◌∙◌}
use Rattle.std.specs.Int.{w64, w128, cast_signed}
use Rattle.std.specs.List.{fold}
use mir.Facts.{to_z-of_z}
use Rattle.nd_model.specs.Arrays.Element.{residue}
use Rattle.nd_types.specs.Kinds.{kind_of}
use Rattle.nd_reduce.proofs.folds.Wrapped.{low_again}
use Rattle.nd_reduce.proofs.folds.row_fold.ProdRowFold.resume.Goals as goal

pub returns : goal.returns
returns c = λ zs some values long is beside.
    let ff : FitsSigned w128 c.args.fold = search rules in let fl : FitsSigned w64 c.low_bits.result = search rules in
    to_z-of_z fl ∙ c.low_bits.ensures ∙ ap (λ z. cast_signed w64 (residue w64 z)) (to_z-of_z ff ∙ is) ∙ low_again (kind_of c.args._kind) (fold (λ a b. a *ℤ b) (pos 1) zs)
