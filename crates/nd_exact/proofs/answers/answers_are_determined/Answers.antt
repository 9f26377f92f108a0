use Rattle.nd_exact.proofs.Settled.{answers_are_determined}
use Rattle.nd_exact.proofs.answers.answers_are_determined.Goals as goal

pub returns : goal.returns
returns c = answers_are_determined
