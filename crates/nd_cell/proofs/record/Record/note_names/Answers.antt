use Rattle.std.proofs.Common.{◌≡◌, subst}
use Rattle.nd_model.specs.Cells.Footprint.{replayed}
use Rattle.nd_session.specs.Session.Order.{names_in}
use Rattle.nd_cell.specs.Records.{RecordData, recorded}
use Rattle.nd_cell.proofs.record.Record.note_names.Goals as goal

pub returns : goal.returns
returns c = λ names from. subst (λ (r : RecordData). names_in (replayed (recorded r).effects.events names) ≡ c.note.new.self) c.self.view_is (c.in_ok-note.ensures names from)
