use Rattle.nd_desk.proofs.Laws.{words_were_bad}
use Rattle.nd_desk.proofs.words_were_bad.Goals as goal

pub returns : goal.returns
returns c = words_were_bad
