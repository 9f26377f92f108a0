use Rattle.std.proofs.Common.{◌≡◌, ℕ, List, length, get_or, ap, ◌∙◌, arith, eqb-true}
use Rattle.nd_ufunc.proofs.elementwise.Gapless.{begins}
use Rattle.nd_ufunc.proofs.elementwise.apart.is_next.Goals as goal

pub returns-else-from-place : goal.returns-else-from-place
returns-else-from-place c =
    let run : List ℕ = c.args.run.now in (
      λ test. let same = eqb-true c.from.result c.args.place test in absurd (omega (arith, same, c.if-from-place.false)),
      λ is.
          let begin : get_or run 0 0 ≡ c.args.place = ap (λ l. get_or l 0 0) is ∙ begins c.args.size c.args.place (length run) (omega (arith, c.count-count.ensures.some, c.count-count.ensures.value)) in
          let same : c.from.result ≡ c.args.place = c.from.ensures ∙ c.start.ensures ∙ begin in
          absurd (omega (arith, same, c.if-from-place.false)),
    )
