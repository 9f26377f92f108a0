use Rattle.nd_cell.specs.Records.{recorded}
use Rattle.nd_cell.proofs.Recording.{done_of}
use Rattle.nd_cell.proofs.record.Record.keep.Goals as goal

pub returns-clause-keeps : goal.returns-clause-keeps
returns-clause-keeps c = c.in_ok-keep.ensures.keeps (recorded c.args.self.now) (done_of _ _ c.self.view_is)
