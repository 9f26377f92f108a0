use Rattle.nd_exact.proofs.WriteRows.{refused_leaves_its_lines}
use Rattle.nd_exact.proofs.writes.refused_leaves_its_lines.Goals as goal

pub returns : goal.returns
returns c = refused_leaves_its_lines
