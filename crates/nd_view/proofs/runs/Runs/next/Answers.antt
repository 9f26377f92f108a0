use Rattle.std.proofs.Common.{rules, ◌<◌, sym, ap, ◌∙◌, arith}
use Rattle.std.specs.Int.{w128}
use Rattle.std.specs.Int.RustNames.{FitsSigned}
use Rattle.std.proofs.lemmas.Int.{to_z-of_z}
use Rattle.std.proofs.lemmas.List.{drop_all}
use Rattle.nd_model.specs.Arrays.Runs.{in_pieces, run_places}
use Rattle.nd_model.proofs.Pieces.{no_pieces}
use Rattle.nd_view.proofs.Walking.{start_is, count_some, count_within, spots_here, walk_is, run_left}
use Rattle.nd_view.proofs.runs.Runs.next.Goals as goal

pub overflow_add-self : goal.overflow_add-self
overflow_add-self c =
    let left : c.self.inside.at < c.self.inside.count = omega (arith, c.if-self.false, c.self.invariant.within) in
    omega (arith, count_within c.self.inside c.self.invariant left, c.self.invariant.count)

pub new-requires-clause-some : goal.new-requires-clause-some
new-requires-clause-some c = count_some c.self.inside c.self.invariant (omega (arith, c.if-self.false, c.self.invariant.within))

pub new-requires-clause-places : goal.new-requires-clause-places
new-requires-clause-places c =
    let left : c.self.inside.at < c.self.inside.count = omega (arith, c.if-self.false, c.self.invariant.within) in
    let fits : FitsSigned w128 c.self.inside.inner.step = search rules in
    rw (to_z-of_z w128 c.self.inside.inner.step fits, c.place_on-start.ensures, start_is c.self.inside c.self.invariant left) (spots_here c.self.inside c.self.invariant left)

pub invariant_of-self : goal.invariant_of-self
invariant_of-self c =
    let left : c.self.inside.at < c.self.inside.count = omega (arith, c.if-self.false, c.self.invariant.within) in
    walk_is c.self.inside c.self.invariant left c.advance.new.index _ (rw (← c.shape.ensures.value) c.advance.ensures.inside)
    (rw (← c.shape.ensures.value) (λ lt. c.advance.ensures.next (c.advance.ensures.more.1 lt)))

pub returns-then-self : goal.returns-then-self
returns-then-self c =
    let none = ap (in_pieces c.self.inside.inner.count) (drop_all c.self.inside.at c.self.inside.view.now.places (omega (arith, c.if-self.true, c.self.invariant.count))) ∙ no_pieces c.self.inside.inner.count in
    let empty = sym c.self.view_is ∙ none in (empty, empty)

pub returns : goal.returns
returns c =
    let left : c.self.inside.at < c.self.inside.count = omega (arith, c.if-self.false, c.self.invariant.within) in
    let fits : FitsSigned w128 c.self.inside.inner.step = search rules in
    sym c.self.view_is
    ∙ run_left c.self.inside c.self.invariant left c.new.result
    (c.new.ensures ∙ (λ i. run_places ((c.place_on-start.ensures ∙ start_is c.self.inside c.self.invariant left) i) (to_z-of_z w128 c.self.inside.inner.step fits i) c.self.inside.inner.count))
