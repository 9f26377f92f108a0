use Rattle.nd_exact.proofs.Settled.{lists_are_determined}
use Rattle.nd_exact.proofs.answers.lists_are_determined.Goals as goal

pub returns : goal.returns
returns c = lists_are_determined
