use Rattle.nd_exact.proofs.Written.{want_stands_for_an_answer}
use Rattle.nd_exact.proofs.scripts.want_stands_for_an_answer.Goals as goal

pub returns : goal.returns
returns c = want_stands_for_an_answer
