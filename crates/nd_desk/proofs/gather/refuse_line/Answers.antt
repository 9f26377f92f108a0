use Rattle.nd_desk.proofs.Gathered.{gathers_badly}
use Rattle.nd_desk.proofs.gather.refuse_line.Goals as goal

pub returns : goal.returns
returns g c = gathers_badly _ _ _ c.push_text.ensures
