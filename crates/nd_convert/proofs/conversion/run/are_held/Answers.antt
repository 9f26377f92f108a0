use Rattle.std.proofs.Common.{◌≡◌, ◌-◌, ◌≤◌, length, get_or, ap, ◌∙◌, arith, rules, tests}
use Rattle.nd_convert.proofs.conversion.Pieces.{all_between}
use Rattle.nd_convert.proofs.conversion.run.are_held.Goals as goal

pub returns-then-first-most : goal.returns-then-first-most
returns-then-first-most c = λ below.
    let a = c.args in let ps = a.run.now in
    let first : get_or ps 0 0 ≤ a.len - a.size = omega (arith, c.place-first.ensures, c.if-first-most.true) in
    let end : c.place-last.result ≡ get_or ps (length ps - 1) 0 = c.place-last.ensures ∙ ap (λ n. get_or ps (n - 1) 0) c.count-count.ensures.value in
    let last : c.place-last.result ≤ a.len - a.size = search (rules, tests, below) in
    all_between ps c.step-step.result a.size a.len (a.len - a.size) c.step-step.ensures.places (omega (arith, c.if-len-size.false)) first (omega (arith, end, last))
