use Rattle.std.proofs.Common.{rules, ◌<◌, ◌^◌, sym, ap, ◌∙◌, subst}
use Rattle.std.specs.Prelude.{ℤ, pos, ◌≤ℤ◌}
use Rattle.std.specs.Int.{w128}
use Rattle.std.specs.Int.RustNames.{FitsSigned}
use Rattle.std.proofs.lemmas.Int.{to_z-of_z}
use Rattle.nd_model.specs.Arrays.Runs.{place_at, spot_at, run_places}
use Rattle.nd_view.proofs.RunParts.{part_is, each_is, each_low}
use Rattle.nd_view.proofs.runs.Run.part.Goals as goal

pub new-requires-2-clause-places : goal.new-requires-2-clause-places
new-requires-2-clause-places c =
    let r = c.self.inside in let ps = c.args.self.now in let from = c.place-2.result in
    let fits : FitsSigned w128 r.step = search rules in
    λ k lt.
    subst (λ (s : ℤ). (pos 0 ≤ℤ place_at from s k) × (spot_at from s k < 2 ^ 64)) (sym (to_z-of_z w128 r.step fits))
    (each_low r c.self.invariant ps c.self.view_is from c.args.first c.args.count c.requires.inside c.place-2.ensures k r.step lt
    (each_is r c.self.invariant ps c.self.view_is from c.args.first c.args.count c.requires.inside c.place-2.ensures k lt))

pub returns : goal.returns
returns c =
    let r = c.self.inside in let ps = c.args.self.now in let from = c.place-2.result in
    let fits : FitsSigned w128 r.step = search rules in
    c.new-2.ensures ∙ ap (λ s. run_places from s c.args.count) (to_z-of_z w128 r.step fits)
    ∙ part_is ps from r.step c.args.first c.args.count c.requires.inside (each_is r c.self.invariant ps c.self.view_is from c.args.first c.args.count c.requires.inside c.place-2.ensures)
