use Rattle.nd_cell.specs.Records.{recorded}
use Rattle.nd_cell.proofs.Recording.{done_of}
use Rattle.nd_cell.proofs.record.Record.follow.Goals as goal

pub returns : goal.returns
returns c = λ world. c.in_ok-follow.ensures (recorded c.args.before.now) (recorded c.args.self.now) world (done_of _ _ c.before-2.view_is) (done_of _ _ c.self.view_is)
