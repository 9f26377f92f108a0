use Rattle.nd_model.proofs.Noted.{writes_read_no_more}
use Rattle.nd_model.proofs.writes_read_no_more.Goals as goal

pub returns : goal.returns
returns c = writes_read_no_more
