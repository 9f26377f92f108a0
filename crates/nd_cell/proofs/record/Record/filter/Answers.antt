use Rattle.std.proofs.Common.{subst}
use Rattle.nd_change.specs.Steps.{IsWordOf}
use Rattle.nd_session.specs.Session.Filter.{covers}
use Rattle.nd_cell.specs.Records.{RecordData, recorded}
use Rattle.nd_cell.proofs.record.Record.filter.Goals as goal

pub returns : goal.returns
returns c = subst (λ (r : RecordData). IsWordOf covers c.of_run.result (recorded r)) c.self.view_is (record { reads = c.of_run.ensures.reads; does = c.of_run.ensures.does })
