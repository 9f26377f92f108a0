use Rattle.std.proofs.Common.{rules, ◌≡◌, to_z, of_z, sym, ap, ◌∙◌, arith}
use Rattle.std.specs.Prelude.{pos, ◌*ℤ◌}
use Rattle.std.specs.Int.{w128}
use Rattle.std.specs.Int.RustNames.{FitsSigned}
use Rattle.std.proofs.lemmas.Bool.Decides.{nat_tests}
use Rattle.std.proofs.lemmas.Int.{to_z-of_z}
use Rattle.nd_view.proofs.Evened.{joined_short, joined_alone, joined_even}
use Rattle.nd_view.proofs.inner_loop.are_joined.Goals as goal
use Rattle.nd_view.proofs.inner_loop.are_joined.Goals.{then-length-le1-via-then-length-le1, then-length-le1-via-else-length-le1+then-count-le1}

pub returns-then-length-le1 : goal.returns-then-length-le1
returns-then-length-le1 c = λ yes. elim c.then-length-le1.branch [
  | then-length-le1-via-then-length-le1 w ↦ joined_short c.args.length c.args.count c.args.stride c.args.step w.if-length-le1.true
  | then-length-le1-via-else-length-le1+then-count-le1 w ↦ joined_alone c.args.length c.args.count c.args.stride c.args.step w.if-count-le1.true
]

pub returns-in-Some : goal.returns-in-Some
returns-in-Some c = λ yes.
    let bits : of_z w128 c.in-Some.all ≡ of_z w128 c.args.stride = grind (arith, nat_tests) in
    let product : FitsSigned w128 c.in-Some.all = search rules in let stride : FitsSigned w128 c.args.stride = search rules in let step : FitsSigned w128 c.args.step = search rules in
    let count : FitsSigned w128 c.from.result = search rules in
    let same : c.in-Some.all ≡ c.args.stride = sym (to_z-of_z w128 c.in-Some.all product) ∙ ap (to_z w128) bits ∙ to_z-of_z w128 c.args.stride stride in
    let all : pos c.args.count *ℤ c.args.step ≡ c.in-Some.all =
    sym (c.in-Some.ensures.1 ∙ (λ i. (to_z-of_z w128 c.from.result count ∙ c.from.ensures) i *ℤ to_z-of_z w128 c.args.step step i)) in
    joined_even c.args.length c.args.count c.args.stride c.args.step (omega arith) (all ∙ same)
