use Rattle.std.proofs.Common.{◌≡◌, ◌∙◌, ap, sym}
use Rattle.nd_model.specs.Cells.Cell.{ended_under, session_after}
use Rattle.nd_model.specs.Grammar.Reading.{reading}
use Rattle.nd_model.specs.Cells.Running.{Running, World, session_of}
use Rattle.nd_model.specs.Cells.Session.{Session, collected}
use Rattle.nd_reach.proofs.Reaching.{end_is_all}
use Rattle.nd_session.specs.Session.Kept.{thawed, version_of}
use Rattle.nd_session.specs.Session.Live.{live}
use Rattle.nd_session.specs.Inputs.Values.{inputs_of, world_of}
use Rattle.nd_cell.specs.Records.{recorded}
use Rattle.nd_cell.specs.Results.{ended_of}
use Rattle.nd_cell.proofs.Recording.{collected_start, ended_cell, ends_run, recorded_run, sound_now, thawed_start}
use Rattle.nd_cell.proofs.run.run_cell.Goals as goal

pub of_run-requires : goal.of_run-requires
of_run-requires c =
    let w : World = world_of (inputs_of c.args.inputs.now.entries) c.args.rule in
    let s : Session = session_of (live c.args.session.now) in
    let began : thawed c.in_ok-before.before ≡ _
    = thawed_start c.args.label s (live c.start.new.self) c.in_ok-before.before c.start.ensures c.in_ok-before.ensures.session c.in_ok-before.ensures.label c.in_ok-before.ensures.next in
    ends_run c.args.label (reading c.args.text.now) w s (version_of c.in_ok-before.before)
    (ended_under w.rule (thawed c.in_ok-before.before) (ended_of c.in-Ok.gives (live c.run_text.new.session)))
    c.requires (sound_now (live c.args.session.now) c.soundness.ensures)
    (c.in_ok-before.ensures.session ∙ ap (λ (x : Running). collected (session_of x)) c.start.ensures ∙ collected_start c.args.label s)
    (ended_cell c.args.label (reading c.args.text.now) w s (live c.start.new.self) _ _ c.start.ensures began c.in-Ok.ensures)

pub returns-clause-recorded : goal.returns-clause-recorded
returns-clause-recorded c =
    let w : World = world_of (inputs_of c.args.inputs.now.entries) c.args.rule in
    let s : Session = session_of (live c.args.session.now) in
    let began : thawed c.in_ok-before.before ≡ _
    = thawed_start c.args.label s (live c.start.new.self) c.in_ok-before.before c.start.ensures c.in_ok-before.ensures.session c.in_ok-before.ensures.label c.in_ok-before.ensures.next in
    recorded_run c.args.label (reading c.args.text.now) w s (version_of c.in_ok-before.before)
    (ended_under w.rule (thawed c.in_ok-before.before) (ended_of c.in-Ok.gives (live c.run_text.new.session)))
    (recorded c.in_ok-made.made) c.in_ok-made.ensures.recorded
    (c.in_ok-before.ensures.session ∙ ap (λ (x : Running). collected (session_of x)) c.start.ensures ∙ collected_start c.args.label s)
    (ended_cell c.args.label (reading c.args.text.now) w s (live c.start.new.self) _ _ c.start.ensures began c.in-Ok.ensures)

pub returns-clause-after : goal.returns-clause-after
returns-clause-after c =
    let w : World = world_of (inputs_of c.args.inputs.now.entries) c.args.rule in
    let s : Session = session_of (live c.args.session.now) in
    let began : thawed c.in_ok-before.before ≡ _
    = thawed_start c.args.label s (live c.start.new.self) c.in_ok-before.before c.start.ensures c.in_ok-before.ensures.session c.in_ok-before.ensures.label c.in_ok-before.ensures.next in
    c.in_ok-made.ensures.after
    ∙ (end_is_all c.args.label (reading c.args.text.now) w s (ended_under w.rule (thawed c.in_ok-before.before) (ended_of c.in-Ok.gives (live c.run_text.new.session)))
    (ended_cell c.args.label (reading c.args.text.now) w s (live c.start.new.self) _ _ c.start.ensures began c.in-Ok.ensures)).after
