use Rattle.nd_exact.proofs.Settled.{refusal_changes_nothing}
use Rattle.nd_exact.proofs.answers.refusal_changes_nothing.Goals as goal

pub returns : goal.returns
returns c = refusal_changes_nothing
