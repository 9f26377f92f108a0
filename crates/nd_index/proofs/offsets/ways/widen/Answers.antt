use Rattle.std.proofs.Common.{map, ap, ◌∙◌, rules, to_z, of_z}
use Rattle.std.specs.Int.{w128}
use Rattle.std.specs.Int.RustNames.{FitsSigned}
use Rattle.std.specs.Prelude.{pos, ◌+ℤ◌, ◌*ℤ◌}
use Rattle.std.proofs.lemmas.Int.{to_z-of_z}
use Rattle.nd_index.proofs.offsets.Pushed.{counted_again}
use Rattle.nd_index.proofs.offsets.ways.widen.Goals as goal

pub push_further-requires-clause-by : goal.push_further-requires-clause-by
push_further-requires-clause-by c =
    let fits : FitsSigned w128 c.scale.result = search rules in
    rw (to_z-of_z w128 c.scale.result fits) c.scale.ensures.limit

pub loop-index-preserved : goal.loop-index-preserved
loop-index-preserved c =
    let fits : FitsSigned w128 c.scale.result = search rules in
    let by = to_z-of_z w128 c.scale.result fits ∙ c.scale.ensures.value in
    counted_again (λ k. map (λ z. (pos k *ℤ to_z w128 (of_z w128 c.args.stride)) +ℤ z) c.args.ways.now) c.loop-index.index c.loop-index.wider.items c.push_further.new.out.items _
    c.in_ok-push_further.ensures (ap (λ b. map (λ z. b +ℤ z) c.args.ways.now) by) c.loop-index.invariant
