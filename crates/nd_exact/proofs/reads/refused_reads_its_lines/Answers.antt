use Rattle.nd_exact.proofs.ReadRows.{refused_reads_its_lines}
use Rattle.nd_exact.proofs.reads.refused_reads_its_lines.Goals as goal

pub returns : goal.returns
returns c = refused_reads_its_lines
