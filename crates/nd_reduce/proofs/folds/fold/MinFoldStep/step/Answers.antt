use Rattle.std.proofs.Common.{rules, ◌≡◌, ℤ, true, false, not, FitsSigned, sym, ◌∙◌, subst, [], ◌∷◌, ◌++◌}
use Rattle.std.specs.Prelude.{◌&&◌}
use Rattle.std.specs.Int.{w128}
use mir.Facts.{to_z-of_z}
use Rattle.std.specs.Prelude.{int_lt}
use Rattle.nd_reduce.specs.Folds.States.{IsBest}
use Rattle.nd_reduce.proofs.folds.Stepped.{best_stays, best_changes}
use Rattle.nd_reduce.proofs.folds.fold.MinFoldStep.step.Goals as goal

pub returns-then-keeps_least : goal.returns-then-keeps_least
returns-then-keeps_least c = λ zs h.
    let n : ℤ = c.args.number in let b : ℤ = c.args.self.best in let fn : FitsSigned w128 n = search rules in
    let is : (c.args.self.some && not (int_lt n b)) ≡ true = (λ i. c.args.self.some && not (int_lt (sym (to_z-of_z fn) i) (sym (to_z-of_z h.fits) i))) ∙ sym c.keeps_least.ensures ∙ c.if-keeps_least.true in
    best_stays int_lt zs b n c.args.self.some h is

pub returns : goal.returns
returns c = λ zs h.
    let n : ℤ = c.args.number in let b : ℤ = c.args.self.best in let fn : FitsSigned w128 n = search rules in
    let is : (c.args.self.some && not (int_lt n b)) ≡ false = (λ i. c.args.self.some && not (int_lt (sym (to_z-of_z fn) i) (sym (to_z-of_z h.fits) i))) ∙ sym c.keeps_least.ensures ∙ c.if-keeps_least.false in
    subst (λ (x : ℤ). IsBest int_lt true x (zs ++ n ∷ [])) (sym (to_z-of_z fn)) (best_changes int_lt zs b n c.args.self.some fn h is)
