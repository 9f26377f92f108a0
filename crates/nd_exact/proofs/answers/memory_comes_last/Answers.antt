use Rattle.nd_exact.proofs.Settled.{memory_comes_last}
use Rattle.nd_exact.proofs.answers.memory_comes_last.Goals as goal

pub returns : goal.returns
returns c = memory_comes_last
