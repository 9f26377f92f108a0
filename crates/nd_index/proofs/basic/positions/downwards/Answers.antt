use Rattle.std.proofs.Common.{◌≡◌, ◌<◌, ap, ◌∙◌, arith}
use Rattle.std.specs.Prelude.{pos, ◌+ℤ◌, unsigned_abs}
use Rattle.std.specs.Int.{w128}
use Rattle.std.proofs.lemmas.Int.{to_z-of_z, ints}
use Rattle.nd_model.specs.Indexing.Slicing.{steps}
use Rattle.nd_index.proofs.basic.Evens.{down_positions}
use Rattle.nd_index.proofs.basic.positions.downwards.Goals as goal
use Rattle.nd_index.proofs.basic.positions.downwards.Goals.{then-count-eq0, else-count-eq0}

pub returns-else-count-le1 : goal.returns-else-count-le1
returns-else-count-le1 c =
    let many : 1 < c.count_steps-count.result = omega (arith, c.if-count-le1.false) in
    let up : pos 0 ≡ c.args.step +ℤ pos (unsigned_abs c.args.step) = omega (arith, ints, c.requires) in
    elim c.if-count-eq0.branch [
      | then-count-eq0 w ↦ absurd (omega (arith, many))
      | else-count-eq0 w ↦ down_positions _ c.args.from c.args.to c.args.step (c.count_steps-count.ensures ∙ ap (steps c.args.to c.args.from) (c.unsigned_abs.ensures.value ∙ ap unsigned_abs (to_z-of_z w128 c.args.step c.ranges.step))) many w.result-is (to_z-of_z w128 c.args.step c.ranges.step) up c.requires.0
    ]
