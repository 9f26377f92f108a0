use Rattle.std.proofs.Common.{◌≡◌, ℕ, suc, ◌+◌, ◌-◌, ◌*◌, List, ◌∷◌, drop, get_or, take, length, sym, ap, ◌∙◌, arith}
use Rattle.std.proofs.Math.Seq.{drop-cons}
use Rattle.nd_model.specs.Arrays.Tuple.{elements_of}
use Rattle.nd_reduce.proofs.axes.axis.elements_behind.Goals as goal

pub loop-length-preserved : goal.loop-length-preserved
loop-length-preserved c =
    let shape = c.args.shape.now in let behind : List ℕ = take (length shape - (c.args.axis + 1)) (drop (c.args.axis + 1) shape) in
    let k = c.loop-length.length-index in let n = c.loop-length.count in let x : ℕ = get_or behind k 0 in let rest : ℕ = elements_of (drop (k + 1) behind) in
    let next : suc k ≡ k + 1 = omega arith in
    let here : elements_of (drop k behind) ≡ x * rest = ap elements_of (drop-cons behind k 0 c.loop-length-test.true ∙ ap (λ j. x ∷ drop j behind) next) in
    let times : n * x * rest ≡ n * (x * rest) = omega arith in
    ap (λ m. m * rest) c.in_ok-count.ensures.1 ∙ times ∙ ap (λ m. n * m) (sym here) ∙ c.loop-length.invariant
