use Rattle.nd_exact.proofs.ReadRows.{refused_reads_what_it_came_to}
use Rattle.nd_exact.proofs.reads.refused_reads_what_it_came_to.Goals as goal

pub returns : goal.returns
returns c = refused_reads_what_it_came_to
