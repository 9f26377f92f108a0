use Rattle.std.proofs.Common.{rules, ap, ◌∙◌}
use Rattle.std.specs.Prelude.{pos, ◌+ℤ◌, ◌*ℤ◌}
use Rattle.std.specs.Int.{w128}
use Rattle.std.specs.Int.RustNames.{FitsSigned}
use Rattle.std.proofs.lemmas.Int.{to_z-of_z}
use Rattle.nd_view.proofs.RunPlaces.{low, high, place_is}
use Rattle.nd_view.proofs.runs.Run.place.Goals as goal

pub shift_place-requires-clause-low : goal.shift_place-requires-clause-low
shift_place-requires-clause-low c =
    let fits : FitsSigned w128 c.self.inside.step = search rules in
    rw (to_z-of_z w128 c.self.inside.step fits) (low c.self.inside c.self.invariant c.args.self.now c.self.view_is c.args.number c.requires)

pub shift_place-requires-clause-high : goal.shift_place-requires-clause-high
shift_place-requires-clause-high c =
    let fits : FitsSigned w128 c.self.inside.step = search rules in
    rw (to_z-of_z w128 c.self.inside.step fits) (high c.self.inside c.self.invariant c.args.self.now c.self.view_is c.args.number c.requires)

pub returns : goal.returns
returns c =
    let fits : FitsSigned w128 c.self.inside.step = search rules in
    place_is c.self.inside c.self.invariant c.args.self.now c.self.view_is c.args.number c.shift_place.result c.requires
    (c.shift_place.ensures ∙ ap (λ z. pos c.self.inside.start +ℤ (pos c.args.number *ℤ z)) (to_z-of_z w128 c.self.inside.step fits))
