use Rattle.std.proofs.Common.{◌+◌, ◌++◌, length, ap, ◌∙◌, arith, length-append}
use Rattle.std.specs.List.{concat}
use Rattle.nd_index.proofs.advanced.SoleArrays.{piece_more, true_run, trues_split}
use Rattle.nd_index.proofs.advanced.masks.push_mask.Goals as goal

pub loop-run-preserved : goal.loop-run-preserved
loop-run-preserved c =
    let mask = c.args.mask.now in let run = c.in-Some.run' in let rest = concat c.next.new.self in let row = c.args.row.now in let axes = c.args.axes.now in
    let first = c.loop-run.first in
    record {
      done = ap (λ n. c.push_trues.new.places.items ++ true_run row axes mask.elem.now mask.bytes.now n rest) (ap (λ n. first + n) c.count-first.ensures.value)
          ∙ piece_more (true_run row axes mask.elem.now mask.bytes.now first) (true_run row axes mask.elem.now mask.bytes.now (first + length run)) c.loop-run.places.items c.push_trues.new.places.items _ (concat c.loop-run.runs) run rest
          (ap concat c.in-Some.ensures) (trues_split row axes mask.elem.now mask.bytes.now first run rest) c.in_ok-push_trues.ensures c.loop-run.invariant.done;
      few = omega (arith, c.loop-run.invariant.few, ap length (ap concat c.in-Some.ensures), length-append run rest, c.count-first.ensures.value);
    }
