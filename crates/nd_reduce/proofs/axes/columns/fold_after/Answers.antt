use Rattle.std.proofs.Common.{rules, FitsSigned, arith, sym, ◌∙◌, subst}
use Rattle.std.specs.Int.{w128}
use mir.Facts.{to_z-of_z}
use Rattle.nd_reduce.proofs.folds.Taken.{none_are, some_are}
use Rattle.nd_reduce.proofs.axes.columns.fold_after.Goals as goal

pub returns-then-taken-gt0 : goal.returns-then-taken-gt0
returns-then-taken-gt0 g c = λ zs long values is beside.
    let ff : FitsSigned w128 c.args.fold = search rules in
    c.resume.ensures zs (some_are zs c.args.taken long c.if-taken-gt0.true) values long (to_z-of_z ff ∙ is c.if-taken-gt0.true) (beside c.if-taken-gt0.true)

pub returns-else-taken-gt0 : goal.returns-else-taken-gt0
returns-else-taken-gt0 g c = λ zs long values is beside. subst (g.F.FoldStep.has_taken c.begin.result) (sym (none_are zs c.args.taken long (omega arith))) c.begin.ensures
