use Rattle.std.proofs.Common.{◌≡◌, ◌+◌, ◌<◌, rules, arith}
use Rattle.nd_model.specs.Arrays.Tuple.{number, elements_of}
use Rattle.nd_view.specs.Indexes.{IsIndex}
use Rattle.nd_view.proofs.Steps.{advanced, number-last, number-below}
use Rattle.nd_view.proofs.walk.advance.Goals as goal

pub returns-then-axes-eq0-clause-more : goal.returns-then-axes-eq0-clause-more
returns-then-axes-eq0-clause-more c =
    let last : number c.args.shape.now c.args.index.now + 1 ≡ elements_of c.args.shape.now
    = number-last c.args.shape.now c.args.index.now (rw c.if-axes-eq0.true at c.count_open_axes-axes.ensures.ends) in
    (λ yes. absurd (search rules), λ more. absurd (omega arith))

abbrev shift_place : (c : goal.After-slice_known-3-1) → IsIndex c.args.shape.now c.clear_from.new.index × (number c.args.shape.now c.clear_from.new.index ≡ number c.args.shape.now c.args.index.now + 1)
shift_place c =
    let some : 0 < c.count_open_axes-axes.result = omega arith in
    advanced c.args.shape.now c.args.index.now c.clear_from.new.index c.count_open_axes-axes.result c.requires some c.count_open_axes-axes.ensures.inside
    (c.count_open_axes-axes.ensures.further some) c.count_open_axes-axes.ensures.ends c.clear_from.ensures

pub returns-clause-inside : goal.returns-clause-inside
returns-clause-inside c = (shift_place c).0

pub returns-clause-next : goal.returns-clause-next
returns-clause-next c = λ yes. (shift_place c).1

pub returns-clause-more : goal.returns-clause-more
returns-clause-more c =
    let m : IsIndex c.args.shape.now c.clear_from.new.index × (number c.args.shape.now c.clear_from.new.index ≡ number c.args.shape.now c.args.index.now + 1) = shift_place c in
    (λ yes. omega (arith, number-below c.args.shape.now c.clear_from.new.index m.0, m.1), λ more. search rules)
