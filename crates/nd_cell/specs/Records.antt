-- Records of runs as the definitions have them.
use Rattle.std.specs.Prelude.{◌≡◌, ℕ, Bool, List, Option, Some, None, if◌then◌else◌}
use Rattle.nd_model.specs.Cells.Fault.{Refusal}
use Rattle.nd_model.specs.Cells.Session.{Session, collected}
use Rattle.nd_model.specs.Cells.Running.{Key, Running, World}
use Rattle.nd_model.specs.Grammar.Syntax.{Parsed}
use Rattle.nd_model.specs.Cells.Cell.{Saved, Ended, cell}
use Rattle.nd_model.specs.Cells.Footprint.{HasNone, reads_of, effects_of}
use Rattle.nd_model.specs.Cells.Sound.{IsSoundSession}
use Rattle.nd_model.specs.Book.Records as records
use Rattle.nd_reach.specs.Reach.{EndsInReach}
use Rattle.nd_session.specs.Session.Reads.{ReadsData, found_in, found_of, keys_of}
use Rattle.nd_session.specs.Session.Changes.{ChangesData, effects_in}

-- what a run read, did and gave: plain data
pub record RecordData : Type 0 where
  pub reads : ReadsData
  pub changes : ChangesData
  pub text : List ℕ
  pub refusal : Option (ℕ × Refusal)
  pub saves : Saved

-- the record that it stands for
abbrev pub recorded : RecordData → records.Record
recorded r = record {
  label = r.changes.label;
  read = keys_of r.reads;
  values = found_of r.reads;
  effects = effects_in r.text r.refusal r.saves r.changes;
}

-- the same end, where these keys count as read
abbrev pub with_reads : (Key → Bool) → Ended → Ended
with_reads keys e = record e { running = record e.running { read = keys } }

-- the record of a run that began with a session and ended so
abbrev pub record_at_end : Session → World → Ended → records.Record
record_at_end s i e = record {
  label = e.running.label;
  read = reads_of e;
  values = λ k. if reads_of e k then Some (found_in s i k) else None;
  effects = effects_of e;
}

-- A cell ended so, but for bases that it made and nothing holds. It began with a sound session, without a base of its label, of which
-- this was kept.
pub record EndsRun (kept : Session) (i : World) (e : Ended) : Type 0 where
  pub parsed : Parsed
  pub before : Session
  pub is : kept ≡ collected before
  pub none : HasNone e.running.label before
  pub sound : IsSoundSession before
  pub ends : EndsInReach (cell e.running.label parsed i before) e

-- what every record keeps true: it is that of such a run
pub record IsOfRun (r : RecordData) : Type 0 where
  pub parsed : Parsed
  pub world : World
  pub before : Session
  pub none : HasNone r.changes.label before
  pub sound : IsSoundSession before
  pub same : recorded r ≡ records.record_of r.changes.label parsed world before
  pub next : r.changes.next ≡ (cell r.changes.label parsed world before).running.next
