use Rattle.nd_exact.proofs.ReadRows.{in_place_reads_its_slice}
use Rattle.nd_exact.proofs.reads.in_place_reads_its_slice.Goals as goal

pub returns : goal.returns
returns c = in_place_reads_its_slice
