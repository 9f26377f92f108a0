use Rattle.nd_desk.proofs.Carried.{reads_out}
use Rattle.nd_desk.proofs.carry.show_reads.Goals as goal

pub returns-in-Ok : goal.returns-in-Ok
returns-in-Ok g c = reads_out c.reads.result c.args.at c.args.notebook.now _ _ c.reads.ensures (rw c.in-Ok.is c.push_reads.ensures)

pub returns-in-Err : goal.returns-in-Err
returns-in-Err g c = reads_out c.reads.result c.args.at c.args.notebook.now _ _ c.reads.ensures (rw c.in-Err.is c.push_query_refusal.ensures)
