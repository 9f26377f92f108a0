use Rattle.nd_exact.proofs.Settled.{counts_at_most_stale}
use Rattle.nd_exact.proofs.answers.counts_at_most_stale.Goals as goal

pub returns : goal.returns
returns c = counts_at_most_stale
