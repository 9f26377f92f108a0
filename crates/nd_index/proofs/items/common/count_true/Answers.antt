use Rattle.std.proofs.Common.{◌+◌, ◌≤◌, ◌^◌, length, ap, arith, rules, length-append}
use Rattle.std.specs.List.{concat}
use Rattle.nd_index.proofs.items.Counted.{count_few, count_run}
use Rattle.nd_index.proofs.items.common.count_true.Goals as goal

pub overflow_add-count : goal.overflow_add-count
overflow_add-count c =
    let mask = c.args.mask.now in let run = c.in-Some.run' in let rest = concat c.next.new.self in
    let few : c.loop-run.count + c.count_in-count.result ≤ 2 ^ 24
    = omega (arith, c.loop-run.invariant.few, c.count_in-count.ensures, count_few mask.elem.now mask.bytes.now run, ap length (ap concat c.in-Some.ensures), length-append run rest) in
    search (rules, few)

pub loop-run-preserved : goal.loop-run-preserved
loop-run-preserved c =
    let mask = c.args.mask.now in let run = c.in-Some.run' in let rest = concat c.next.new.self in
    record {
      total = omega (arith, c.loop-run.invariant.total, c.count_in-count.ensures, count_run mask.elem.now mask.bytes.now (concat c.loop-run.runs) run rest (ap concat c.in-Some.ensures));
      few = omega (arith, c.loop-run.invariant.few, c.count_in-count.ensures, count_few mask.elem.now mask.bytes.now run, ap length (ap concat c.in-Some.ensures), length-append run rest);
    }
