use Rattle.std.proofs.Common.{rules, sym, ◌∙◌}
use Rattle.std.specs.Int.{w128}
use Rattle.std.specs.Int.RustNames.{FitsSigned}
use Rattle.std.proofs.lemmas.Int.{to_z-of_z}
use Rattle.nd_model.specs.Arrays.Runs.{place_at}
use Rattle.nd_view.proofs.RunPlaces.{count_of, way, start_of}
use Rattle.nd_view.proofs.runs.Run.step.Goals as goal

pub returns-clause-places : goal.returns-clause-places
returns-clause-places c =
    let fits : FitsSigned w128 c.self.inside.step = search rules in
    let start = start_of c.self.inside c.self.invariant c.args.self.now c.self.view_is in
    λ k lt. (λ i. place_at (sym start i) (to_z-of_z w128 c.self.inside.step fits i) k)
    ∙ way c.self.inside c.self.invariant c.args.self.now c.self.view_is k lt

pub returns-clause-alone : goal.returns-clause-alone
returns-clause-alone c =
    let fits : FitsSigned w128 c.self.inside.step = search rules in
    λ one. to_z-of_z w128 c.self.inside.step fits ∙ c.self.invariant.alone (count_of c.self.inside c.self.invariant c.args.self.now c.self.view_is ∙ one)
