use Rattle.std.proofs.Common.{rules, not, FitsSigned, ap, ◌∙◌}
use Rattle.std.specs.Int.{w128}
use Rattle.std.specs.List.{list_all}
use mir.Facts.{to_z-of_z}
use Rattle.nd_model.specs.Making.Operators.{is_zero}
use Rattle.nd_reduce.proofs.folds.Truths.{truth_again}
use Rattle.nd_reduce.proofs.folds.row_fold.AllRowFold.resume.Goals as goal

pub returns : goal.returns
returns c = λ zs some values long is beside.
    let ff : FitsSigned w128 c.args.fold = search rules in
    ap not (c.is_zero.ensures ∙ ap is_zero (to_z-of_z ff ∙ is)) ∙ truth_again (list_all (λ z. not (is_zero z)) zs)
