use Rattle.nd_exact.proofs.Settled.{each_is_answered}
use Rattle.nd_exact.proofs.answers.each_is_answered.Goals as goal

pub returns : goal.returns
returns c = each_is_answered
