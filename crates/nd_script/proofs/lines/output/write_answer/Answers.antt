use Rattle.std.proofs.Common.{rules}
use Rattle.nd_script.proofs.lines.Writing.{wrote_more}
use Rattle.nd_script.proofs.lines.output.write_answer.Goals as goal

pub loop-rest-preserved : goal.loop-rest-preserved
loop-rest-preserved g c =
    let inv = c.loop-rest.invariant in
    record {
      so_far = wrote_more c.args.answer.now inv.so_far.0 c.loop-rest.rest.now _ _ _ _ inv.so_far.1 inv.so_far.2 c.in-Ok.ensures.bytes;
      kept = search rules;
    }
