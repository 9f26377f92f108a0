use Rattle.std.proofs.Common.{ℕ, ◌-◌, ◌%◌, ◌<◌, List, length, ap, subst, arith}
use Rattle.std.proofs.Math.Nat.{mod-lt}
use Rattle.nd_model.specs.Arrays.Tuple.{elements_of}
use Rattle.nd_ufunc.proofs.elementwise.Spreads.{behind_is, last_few}
use Rattle.nd_ufunc.proofs.elementwise.spread.spread_number.Goals as goal

pub element_count-requires : goal.element_count-requires
element_count-requires c =
    let shape : List ℕ = c.args.shape.now in let more : ℕ = length shape - length c.args.own.now in
    let few = last_few more shape (omega (arith, c.requires.inside)) in
    omega (arith, ap elements_of (behind_is more shape), few.1, c.requires.few)

pub nonzero_rem-at : goal.nonzero_rem-at
nonzero_rem-at c =
    let shape : List ℕ = c.args.shape.now in let more : ℕ = length shape - length c.args.own.now in
    let few = last_few more shape (omega (arith, c.requires.inside)) in
    omega (arith, c.element_count.ensures, ap elements_of (behind_is more shape), few.0)

pub aligned_number-requires-clause-inside : goal.aligned_number-requires-clause-inside
aligned_number-requires-clause-inside c =
    let shape : List ℕ = c.args.shape.now in let more : ℕ = length shape - length c.args.own.now in
    let few = last_few more shape (omega (arith, c.requires.inside)) in
    let some : 0 < c.element_count.result = omega (arith, c.element_count.ensures, ap elements_of (behind_is more shape), few.0) in
    subst (λ n. c.args.at % c.element_count.result < n) c.element_count.ensures (mod-lt c.args.at some)

pub aligned_number-requires-clause-few : goal.aligned_number-requires-clause-few
aligned_number-requires-clause-few c =
    let shape : List ℕ = c.args.shape.now in let more : ℕ = length shape - length c.args.own.now in
    let few = last_few more shape (omega (arith, c.requires.inside)) in
    omega (arith, ap elements_of (behind_is more shape), few.1, c.requires.few)
