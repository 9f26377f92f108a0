use Rattle.std.proofs.Common.{rules, ℕ, ℤ, ◌*◌, ◌<◌, List, [], ◌∷◌, ◌++◌, map, FitsSigned, ◌∙◌, subst, arith}
use Rattle.std.specs.Int.{w128}
use mir.Facts.{to_z-of_z}
use Rattle.nd_model.specs.Arrays.Content.{number_at}
use Rattle.nd_model.specs.Arrays.Element.{Kind, size_of}
use Rattle.nd_model.specs.Making.Elementwise.{little}
use Rattle.nd_model.specs.Making.Reductions.{greater}
use Rattle.nd_model.specs.Arrays.Tuple.{count_up}
use Rattle.nd_types.specs.Kinds.{kind_of}
use Rattle.nd_reduce.specs.Folds.States.{IsBest}
use Rattle.nd_reduce.proofs.folds.Better.{greater_between, greater_apart}
use Rattle.nd_reduce.proofs.folds.Stepped.{best_joins}
use Rattle.nd_reduce.proofs.folds.Taken.{has_numbers, none_of}
use Rattle.nd_reduce.proofs.folds.run_fold.MaxRunFold.take.Goals as goal

pub returns-then-count-eq0 : goal.returns-then-count-eq0
returns-then-count-eq0 c = λ zs h.
    let kind : Kind = kind_of c.args.kind in let f : ℕ → ℤ = λ j. number_at (little kind) c.args.bytes.now (j * size_of kind) in
    subst (IsBest greater c.args.self.some c.args.self.best) (none_of f c.args.count zs c.if-count-eq0.true) h

pub returns : goal.returns
returns c = λ zs h.
    let kind : Kind = kind_of c.args.kind in let f : ℕ → ℤ = λ j. number_at (little kind) c.args.bytes.now (j * size_of kind) in
    let xs : List ℤ = map f (count_up 0 c.args.count) in let some : 0 < c.args.count = omega (arith, c.if-count-eq0.false) in
    let fits : FitsSigned w128 c.greatest_in.result = search rules in
    best_joins greater greater_between greater_apart zs xs (has_numbers f c.args.count some) c.step.result.some c.step.result.best
    (subst (λ (z : ℤ). IsBest greater c.step.result.some c.step.result.best (zs ++ z ∷ [])) (to_z-of_z fits ∙ c.greatest_in.ensures) (c.step.ensures zs h))
