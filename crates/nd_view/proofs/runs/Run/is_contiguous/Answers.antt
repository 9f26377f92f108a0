use Rattle.std.proofs.Common.{rules, tests, ◌≡◌, ◌<◌, pos, length, sym, ap, ◌∙◌, arith, eq-eqb}
use Rattle.std.specs.Int.{w128, cast_signed, cast_unsigned}
use Rattle.std.specs.Int.RustNames.{FitsSigned}
use mir.Facts.{to_z-of_z}
use Rattle.nd_view.proofs.SideBySide.{alone, by_step, step_is}
use Rattle.nd_view.proofs.runs.Run.is_contiguous.Goals as goal

pub returns-then-count-eq1 : goal.returns-then-count-eq1
returns-then-count-eq1 c = (
  λ yes. alone c.args.self.now c.args.itemsize (omega (arith, c.if-count-eq1.true, c.count-count.ensures.value)),
  λ are. eq-eqb c.count-count.result 1 c.if-count-eq1.true,
)

pub returns-else-count-eq1 : goal.returns-else-count-eq1
returns-else-count-eq1 c =
    let run = c.args.self.now in let step = c.step.result in let size = c.args.itemsize in
    let is : c.from.result ≡ pos size = c.from.ensures in
    let two : 1 < length run = omega (arith, c.if-count-eq1.false, c.count-count.ensures.value, c.count-count.ensures.some) in (
      λ yes.
          let f : FitsSigned w128 step = search rules in let g : FitsSigned w128 c.from.result = search rules in
          let same : cast_unsigned w128 step ≡ cast_unsigned w128 c.from.result = search (rules, tests, yes) in
          by_step run step size c.step.ensures.places (sym (to_z-of_z f) ∙ ap (cast_signed w128) same ∙ to_z-of_z g ∙ is),
      λ are. eq-eqb _ _ (ap (cast_unsigned w128) (step_is run step size two c.step.ensures.places are ∙ sym is)),
    )
