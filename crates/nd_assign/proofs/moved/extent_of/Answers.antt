use Rattle.std.proofs.Common.{◌≡◌, ◌<◌, ◌-◌, ℕ, List, length, get_or, ap, ◌∙◌, arith}
use Rattle.std.specs.List.{concat}
use Rattle.nd_assign.proofs.Nearer.{further}
use Rattle.nd_assign.proofs.moved.extent_of.Goals as goal

pub loop-run-preserved : goal.loop-run-preserved
loop-run-preserved c =
    let run : List ℕ = c.in-Some.run' in let left : List ℕ = concat c.next.new.self in
    let some : 0 < length run = omega (arith, c.count-count.ensures.value, c.count-count.ensures.some) in
    let begin : c.place-begin.result ≡ get_or run 0 0 = c.place-begin.ensures in
    let end : c.place-end.result ≡ get_or run (length run - 1) 0 = c.place-end.ensures ∙ ap (λ n. get_or run (n - 1) 0) c.count-count.ensures.value in
    let low = c.min-in-Some.ensures in let high = c.max-in-Some.ensures in let inner = c.min.ensures in let outer = c.max.ensures in
    further c.args.view.now.places run left (concat c.loop-run.runs) c.step-step.result c.loop-run.extent.first c.loop-run.extent.last c.min-in-Some.result c.max-in-Some.result some c.step-step.ensures.places
    (omega (arith, low, inner, begin, end)) (omega (arith, low, inner, begin, end)) (omega (arith, low, inner, begin, end))
    (omega (arith, high, outer, begin, end)) (omega (arith, high, outer, begin, end)) (omega (arith, high, outer, begin, end))
    (ap concat c.in-Some.ensures) c.loop-run.invariant
