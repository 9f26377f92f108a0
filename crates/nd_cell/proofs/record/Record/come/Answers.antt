use Rattle.nd_cell.specs.Records.{recorded}
use Rattle.nd_cell.proofs.Recording.{done_of}
use Rattle.nd_cell.proofs.record.Record.come.Goals as goal

pub returns : goal.returns
returns c = c.in_ok-come.ensures (recorded c.args.self.now) (done_of _ _ c.self.view_is)
