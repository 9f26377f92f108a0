use Rattle.std.proofs.Common.{rules, ℤ, true, FitsSigned, sym, ◌∙◌, subst}
use Rattle.nd_model.specs.Making.Reductions.{greater}
use Rattle.std.specs.Int.{w128}
use mir.Facts.{to_z-of_z}
use Rattle.nd_model.specs.Making.Reductions.{best}
use Rattle.nd_model.proofs.Values.{wrap_value}
use Rattle.nd_types.specs.Kinds.{kind_of}
use Rattle.nd_reduce.specs.Folds.States.{IsBest}
use Rattle.nd_reduce.proofs.folds.Folded.{best_value}
use Rattle.nd_reduce.proofs.folds.row_fold.MaxRowFold.resume.Goals as goal

pub returns : goal.returns
returns c = λ zs some values long is beside.
    let ff : FitsSigned w128 c.args.fold = search rules in
    subst (λ (x : ℤ). IsBest greater true x zs) (sym (to_z-of_z ff)) (record {
      fits = ff;
      has = sym some;
      is = is ∙ wrap_value (kind_of c.args._kind) (best greater zs) (best_value greater (kind_of c.args._kind) zs some values);
    })
