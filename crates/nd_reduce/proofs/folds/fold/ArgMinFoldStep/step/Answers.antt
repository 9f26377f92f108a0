use Rattle.std.proofs.Common.{rules, ◌≡◌, ℤ, true, false, not, nat_lt, FitsSigned, ◌+◌, ◌<◌, ◌^◌, ◌%◌, length, sym, ◌∙◌, subst, [], ◌∷◌, ◌++◌, arith}
use Rattle.std.specs.Prelude.{◌&&◌}
use Rattle.std.specs.Int.{w128}
use Rattle.std.proofs.lemmas.List.{length_push}
use mir.Facts.{to_z-of_z}
use Rattle.std.specs.Prelude.{int_lt}
use Rattle.nd_reduce.proofs.folds.Better.{less_between}
use Rattle.nd_reduce.specs.Folds.States.{IsBestPlace}
use Rattle.nd_reduce.proofs.folds.Stepped.{place_stays, place_changes}
use Rattle.nd_reduce.proofs.folds.fold.ArgMinFoldStep.step.Goals as goal

pub returns-then-keeps_least : goal.returns-then-keeps_least
returns-then-keeps_least c = λ zs h lt.
    let n : ℤ = c.args.number in let b : ℤ = c.args.self.best in let count = c.args.self.count in let fn : FitsSigned w128 n = search rules in
    let short : length zs < 2 ^ 64 = omega (arith, length_push zs n) in let fb : FitsSigned w128 b = (h short).fits in
    let is : (nat_lt 0 count && not (int_lt n b)) ≡ true = (λ i. nat_lt 0 count && not (int_lt (sym (to_z-of_z fn) i) (sym (to_z-of_z fb) i))) ∙ sym c.keeps_least.ensures ∙ c.if-keeps_least.true in
    subst (λ (x : ℤ). IsBestPlace int_lt ((count + 1) % 2 ^ 64) c.args.self.place x (zs ++ n ∷ [])) (sym (to_z-of_z fb)) (place_stays int_lt zs b n less_between count c.args.self.place h (λ s. is) lt)

pub returns : goal.returns
returns c = λ zs h lt.
    let n : ℤ = c.args.number in let b : ℤ = c.args.self.best in let count = c.args.self.count in let fn : FitsSigned w128 n = search rules in
    let short : length zs < 2 ^ 64 = omega (arith, length_push zs n) in let fb : FitsSigned w128 b = (h short).fits in
    let is : (nat_lt 0 count && not (int_lt n b)) ≡ false = (λ i. nat_lt 0 count && not (int_lt (sym (to_z-of_z fn) i) (sym (to_z-of_z fb) i))) ∙ sym c.keeps_least.ensures ∙ c.if-keeps_least.false in
    subst (λ (x : ℤ). IsBestPlace int_lt ((count + 1) % 2 ^ 64) count x (zs ++ n ∷ [])) (sym (to_z-of_z fn)) (place_changes int_lt zs b n less_between count c.args.self.place fn h (λ s. is) lt)
