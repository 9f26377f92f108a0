use Rattle.nd_exact.proofs.ReadRows.{no_cell_reads_the_rule}
use Rattle.nd_exact.proofs.reads.no_cell_reads_the_rule.Goals as goal

pub returns : goal.returns
returns c = no_cell_reads_the_rule
