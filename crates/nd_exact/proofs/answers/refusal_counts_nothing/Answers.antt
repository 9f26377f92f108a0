use Rattle.nd_exact.proofs.Settled.{refusal_counts_nothing}
use Rattle.nd_exact.proofs.answers.refusal_counts_nothing.Goals as goal

pub returns : goal.returns
returns c = refusal_counts_nothing
