use Rattle.std.proofs.Common.{◌≡◌, ◌+◌, ◌*◌, ◌/◌, ◌<◌, sym, ap, ◌∙◌, arith}
use Rattle.std.proofs.lemmas.Nat.{div-mul-add}
use Rattle.nd_reduce.proofs.axes.axis.lane_count.Goals as goal

pub returns-then-count-eq0 : goal.returns-then-count-eq0
returns-then-count-eq0 c = c.requires.1 ∙ ap (λ n. c.requires.0 * n) c.if-count-eq0.true ∙ omega arith

pub returns : goal.returns
returns c =
    let e = c.args.elements in let n = c.args.count in let m = c.requires.0 in let some : 0 < n = omega (arith, c.if-count-eq0.false) in
    let more : e ≡ m * n + 0 = omega (arith, c.requires.1) in let q : e / n ≡ m = ap (λ x. x / n) more ∙ div-mul-add m n 0 some in
    c.requires.1 ∙ ap (λ x. x * n) (sym q)
