use Rattle.std.proofs.Common.{◌*◌, ◌+◌, ◌^◌, pos, min, get_or, ap, ◌∙◌, arith, rules}
use Rattle.std.specs.Int.{w128}
use Rattle.std.specs.Int.RustNames.{FitsSigned}
use Rattle.std.proofs.lemmas.Int.{to_z-of_z}
use Rattle.nd_model.specs.Indexing.Reshaping.{is_length, length_or}
use Rattle.nd_shape.proofs.LengthLoops.{known_next}
use Rattle.nd_shape.proofs.Pushed.{all_next}
use Rattle.nd_shape.proofs.reshaping.known_elements.Goals as goal

pub loop-length-preserved : goal.loop-length-preserved
loop-length-preserved c =
    let k = c.loop-length.length-index in
    let zs = c.args.lengths.now in
    let fits : FitsSigned w128 (get_or zs k (pos 0)) = search rules in
    let own = c.length_or.ensures.value ∙ ap (length_or 1) (to_z-of_z w128 (get_or zs k (pos 0)) fits) in
    record {
      inside = (all_next is_length zs k (pos 0) (omega arith) c.loop-length.invariant.inside).1;
      value = known_next zs k (pos 0) c.loop-length.count c.multiply-count.result _ (2 ^ 24 + 1) (omega arith)
          (c.multiply-count.ensures.value ∙ ap (λ n. min (c.loop-length.count * n) (2 ^ 24 + 1)) own) c.loop-length.invariant.value;
      range = c.multiply-count.ensures.range;
    }
