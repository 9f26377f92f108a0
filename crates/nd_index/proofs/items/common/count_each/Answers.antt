use Rattle.std.proofs.Common.{◌<◌, length, of_z, to_z, sym, ap, ◌∙◌, arith, rules}
use Rattle.std.specs.Int.{w128}
use Rattle.std.specs.Int.RustNames.{FitsSigned}
use Rattle.std.proofs.lemmas.Int.{to_z-of_z}
use Rattle.nd_model.specs.Indexing.Advanced.{is_nonzero}
use Rattle.nd_index.proofs.items.Counted.{count_next, nonzero}
use Rattle.nd_index.proofs.items.common.count_each.Goals as goal
use Rattle.nd_index.proofs.items.common.count_each.Goals.{then-read_at-ne0, else-read_at-ne0}

pub loop-at-preserved : goal.loop-at-preserved
loop-at-preserved c =
    let e = c.args.elem in let bytes = c.args.bytes.now in let run = c.args.run.now in let k = c.loop-at.at in
    let lt : k < length run = omega (arith, c.loop-at-test.true, c.count-at-end.ensures.value) in
    let fits : FitsSigned w128 c.read_at.result = search rules in
    let number = c.read_at.ensures in
    let next = count_next e bytes run k lt in
    elim c.if-read_at-ne0.branch [
      | then-read_at-ne0 w ↦
          let more = next.0 (ap is_nonzero (sym number) ∙ nonzero c.read_at.result (λ is. w.if-read_at-ne0.true (ap (of_z w128) is))) in
          record {
            total = omega (arith, c.loop-at.invariant.total, more, w.count-is);
            few = omega (arith, c.loop-at.invariant.few, w.count-is);
          }
      | else-read_at-ne0 w ↦
          let same = next.1 (ap is_nonzero (sym number ∙ sym (to_z-of_z w128 c.read_at.result fits) ∙ ap (to_z w128) w.if-read_at-ne0.false)) in
          record {
            total = omega (arith, c.loop-at.invariant.total, same, w.count-is);
            few = omega (arith, c.loop-at.invariant.few, w.count-is);
          }
    ]
