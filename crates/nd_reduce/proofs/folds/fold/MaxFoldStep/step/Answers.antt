use Rattle.std.proofs.Common.{rules, ◌≡◌, ℤ, true, false, not, FitsSigned, sym, ◌∙◌, subst, [], ◌∷◌, ◌++◌}
use Rattle.std.specs.Prelude.{◌&&◌}
use Rattle.std.specs.Int.{w128}
use mir.Facts.{to_z-of_z}
use Rattle.nd_model.specs.Making.Reductions.{greater}
use Rattle.nd_reduce.specs.Folds.States.{IsBest}
use Rattle.nd_reduce.proofs.folds.Stepped.{best_stays, best_changes}
use Rattle.nd_reduce.proofs.folds.fold.MaxFoldStep.step.Goals as goal

pub returns-then-keeps_greatest : goal.returns-then-keeps_greatest
returns-then-keeps_greatest c = λ zs h.
    let n : ℤ = c.args.number in let b : ℤ = c.args.self.best in let fn : FitsSigned w128 n = search rules in
    let is : (c.args.self.some && not (greater n b)) ≡ true = (λ i. c.args.self.some && not (greater (sym (to_z-of_z fn) i) (sym (to_z-of_z h.fits) i))) ∙ sym c.keeps_greatest.ensures ∙ c.if-keeps_greatest.true in
    best_stays greater zs b n c.args.self.some h is

pub returns : goal.returns
returns c = λ zs h.
    let n : ℤ = c.args.number in let b : ℤ = c.args.self.best in let fn : FitsSigned w128 n = search rules in
    let is : (c.args.self.some && not (greater n b)) ≡ false = (λ i. c.args.self.some && not (greater (sym (to_z-of_z fn) i) (sym (to_z-of_z h.fits) i))) ∙ sym c.keeps_greatest.ensures ∙ c.if-keeps_greatest.false in
    subst (λ (x : ℤ). IsBest greater true x (zs ++ n ∷ [])) (sym (to_z-of_z fn)) (best_changes greater zs b n c.args.self.some fn h is)
