use Rattle.std.proofs.Common.{rules, ℤ, true, FitsSigned, sym, ◌∙◌, subst}
use Rattle.std.specs.Prelude.{int_lt}
use Rattle.std.specs.Int.{w128}
use mir.Facts.{to_z-of_z}
use Rattle.nd_model.specs.Making.Reductions.{best}
use Rattle.nd_model.proofs.Values.{wrap_value}
use Rattle.nd_types.specs.Kinds.{kind_of}
use Rattle.nd_reduce.specs.Folds.States.{IsBest}
use Rattle.nd_reduce.proofs.folds.Folded.{best_value}
use Rattle.nd_reduce.proofs.folds.row_fold.MinRowFold.resume.Goals as goal

pub returns : goal.returns
returns c = λ zs some values long is beside.
    let ff : FitsSigned w128 c.args.fold = search rules in
    subst (λ (x : ℤ). IsBest int_lt true x zs) (sym (to_z-of_z ff)) (record {
      fits = ff;
      has = sym some;
      is = is ∙ wrap_value (kind_of c.args._kind) (best int_lt zs) (best_value int_lt (kind_of c.args._kind) zs some values);
    })
