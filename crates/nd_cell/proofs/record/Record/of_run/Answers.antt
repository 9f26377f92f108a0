use Rattle.std.proofs.Common.{◌≡◌, ◌∙◌, Bool, ap, option_map, string_bytes}
use Rattle.nd_model.specs.Cells.Cell.{Ended, ended_under}
use Rattle.nd_model.specs.Cells.Running.{Key, World}
use Rattle.nd_model.specs.Cells.Footprint.{reads_of}
use Rattle.nd_trace.specs.Seen.{Seen}
use Rattle.nd_session.specs.Session.Listed.{seen_of}
use Rattle.nd_session.specs.Session.Live.{live}
use Rattle.nd_session.specs.Session.Reads.{is_read_by, keys_of}
use Rattle.nd_session.specs.Session.Kept.{thawed, version_of}
use Rattle.nd_session.specs.Inputs.Values.{inputs_of, rule_of, world_of}
use Rattle.nd_cell.specs.declared.result.CellResult.{CellResult}
use Rattle.nd_cell.specs.Records.{RecordData}
use Rattle.nd_cell.specs.Results.{ended_of, refusal_of, saves_of}
use Rattle.nd_cell.proofs.Recording.{is_of_run, read_under, recorded_whole, session_at_end}
use Rattle.nd_cell.proofs.record.Record.of_run.Goals as goal

pub returns-in-Ok-new-2-clause-recorded : goal.returns-in-Ok-new-2-clause-recorded
returns-in-Ok-new-2-clause-recorded c =
    let w : World = world_of (inputs_of c.args.inputs.now.entries) c.args.rule in
    let e : Ended = ended_under w.rule (thawed c.args.before) (ended_of c.args.gives (live c.args.session.now)) in
    let made : RecordData = record {
      reads = c.in-Ok.reads;
      changes = c.in-Ok-new.changes;
      text = string_bytes c.in-Ok-new-2.result.value.text;
      refusal = option_map refusal_of c.in-Ok-new-2.result.value.refusal;
      saves = saves_of c.in-Ok-new-2.result.value.saves.entries;
    } in
    let keys : (k : Key) → keys_of made.reads k ≡ reads_of e k
    = λ k. c.in-Ok.ensures.keys k ∙ ap (λ (t : Seen). is_read_by t c.is_some-is_refused.result k) c.seen.ensures
    ∙ ap (λ (b : Bool). is_read_by (seen_of c.args.session.now) b k) c.is_some-is_refused.ensures
    ∙ read_under c.args.session.now w.rule (thawed c.args.before) (string_bytes c.args.gives.text) c.args.gives.refusal (saves_of c.args.gives.saves.entries) k in
    recorded_whole (version_of c.args.before) w made e (live c.end_by-gives.new.session)
    (ap (λ (x : CellResult). ended_of x (live c.end_by-gives.new.session)) c.in-Ok-new-2.ensures.ok ∙ c.end_by-gives.ensures)
    c.in-Ok-new.ensures.label keys c.in-Ok.ensures.found
    c.in-Ok-new.ensures.events c.in-Ok-new.ensures.bases c.in-Ok-new.ensures.writes

pub returns-in-Ok-new-2-clause-after : goal.returns-in-Ok-new-2-clause-after
returns-in-Ok-new-2-clause-after c = session_at_end (ended_of c.end_by-gives.result (live c.end_by-gives.new.session))
    (ended_under (rule_of c.args.rule) (thawed c.args.before) (ended_of c.args.gives (live c.args.session.now))) (live c.end_by-gives.new.session).read c.end_by-gives.ensures

pub invariant_of-result : goal.invariant_of-result
invariant_of-result c =
    let w : World = world_of (inputs_of c.args.inputs.now.entries) c.args.rule in
    let e : Ended = ended_under w.rule (thawed c.args.before) (ended_of c.args.gives (live c.args.session.now)) in
    let made : RecordData = record {
      reads = c.in-Ok.reads;
      changes = c.in-Ok-new.changes;
      text = string_bytes c.in-Ok-new-2.result.value.text;
      refusal = option_map refusal_of c.in-Ok-new-2.result.value.refusal;
      saves = saves_of c.in-Ok-new-2.result.value.saves.entries;
    } in
    let keys : (k : Key) → keys_of made.reads k ≡ reads_of e k
    = λ k. c.in-Ok.ensures.keys k ∙ ap (λ (t : Seen). is_read_by t c.is_some-is_refused.result k) c.seen.ensures
    ∙ ap (λ (b : Bool). is_read_by (seen_of c.args.session.now) b k) c.is_some-is_refused.ensures
    ∙ read_under c.args.session.now w.rule (thawed c.args.before) (string_bytes c.args.gives.text) c.args.gives.refusal (saves_of c.args.gives.saves.entries) k in
    is_of_run made (version_of c.args.before) w e c.requires
    (c.in-Ok-new.ensures.label ∙ ap (λ (x : Ended). x.running.label) c.end_by-gives.ensures)
    (c.in-Ok-new.ensures.next ∙ ap (λ (x : Ended). x.running.next) c.end_by-gives.ensures)
    (recorded_whole (version_of c.args.before) w made e (live c.end_by-gives.new.session)
    (ap (λ (x : CellResult). ended_of x (live c.end_by-gives.new.session)) c.in-Ok-new-2.ensures.ok ∙ c.end_by-gives.ensures)
    c.in-Ok-new.ensures.label keys c.in-Ok.ensures.found
    c.in-Ok-new.ensures.events c.in-Ok-new.ensures.bases c.in-Ok-new.ensures.writes)
