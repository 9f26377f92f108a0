use Rattle.std.proofs.Common.{option_map, string_bytes, subst, sym}
use Rattle.nd_model.specs.Book.Records.{StillHolds}
use Rattle.nd_model.specs.Cells.Running.{session_of}
use Rattle.nd_session.specs.Session.Live.{live}
use Rattle.nd_cell.specs.Records.{RecordData, recorded}
use Rattle.nd_cell.specs.Results.{refusal_of, saves_of}
use Rattle.nd_cell.proofs.Recording.{redo_sound, sound_now}
use Rattle.nd_cell.proofs.record.Record.replay.Goals as goal

pub redo-requires-clause-sound : goal.redo-requires-clause-sound
redo-requires-clause-sound c =
    let made : RecordData = record {
      reads = c.self.inside.reads;
      changes = c.self.inside.changes;
      text = string_bytes c.self.inside.result.value.text;
      refusal = option_map refusal_of c.self.inside.result.value.refusal;
      saves = saves_of c.self.inside.result.value.saves.entries;
    } in
    redo_sound made (session_of (live c.args.session.now)) c.requires.0 c.self.invariant
    (subst (λ (r : RecordData). StillHolds (recorded r) (session_of (live c.args.session.now)) c.requires.0) (sym c.self.view_is) c.requires.1)
    (sound_now (live c.args.session.now) c.soundness.ensures)
