use Rattle.std.proofs.Common.{subst}
use Rattle.std.specs.Prelude.{◌↔◌, IsTrue}
use Rattle.nd_change.specs.Change.{Fits}
use Rattle.nd_session.specs.Session.Change.{change_of}
use Rattle.nd_cell.specs.Records.{RecordData, recorded}
use Rattle.nd_cell.proofs.record.Record.fits.Goals as goal

pub returns : goal.returns
returns c = subst (λ (r : RecordData). IsTrue c.fits.result ↔ Fits (change_of c.args.change.now) (recorded r)) c.self.view_is c.fits.ensures
