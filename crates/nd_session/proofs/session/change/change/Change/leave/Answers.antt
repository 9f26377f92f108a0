use Rattle.std.proofs.Common.{ℕ, List, Option, refl, ap, subst}
use Rattle.nd_change.specs.Steps.{Leaves}
use Rattle.nd_change.specs.Whole.{Whole, whole_of}
use Rattle.nd_change.proofs.Whole.{leaves_whole}
use Rattle.nd_model.specs.Arrays.Value as values
use Rattle.nd_model.specs.Cells.Running as running
use Rattle.nd_model.specs.Cells.Session as model
use Rattle.nd_session.specs.Session.Change.{ChangeData, change_of, whole_in}
use Rattle.nd_session.specs.Session.Now.{block_now, data_in, part_now, value_now}
use Rattle.nd_session.specs.Session.Changes.{ChangesData}
use Rattle.nd_session.specs.Session.Live.{live}
use Rattle.nd_session.proofs.session.Carrying.{names_behind, with_old}
use Rattle.nd_session.proofs.session.change.change.Change.leave.Goals as goal

pub returns : goal.returns
returns c = λ r done.
    let s = running.session_of (live c.args.session.now) in
    let now : List ℕ → Option values.Value = λ n. model.lookup n s.names in
    let old : Whole = whole_in (data_in c.self.inside) in
    let new : Whole = record { names = value_now c.note_names.new.names.entries; inputs = old.inputs; bytes = part_now c.note_blocks.new.parts.entries; rule = old.rule; blocks = block_now c.note_blocks.new.blocks.entries } in
    subst (λ (o : ChangeData). Leaves (change_of o) (whole_of new) r (model.collected s)) c.self.view_is
    (leaves_whole r (model.collected s) old new (with_old s old new r c.args.old.now done
    (names_behind now old.names new.names c.old.inside.events.items c.deref.result.now c.args.old.now.events c.deref.ensures.value (ap (λ (d : ChangesData). d.events) c.old.view_is)
    c.in_ok-note_names.ensures.noted c.in_ok-note_names.ensures.all)
    (λ n. refl) refl c.old.inside.label c.in_ok-note_blocks.ensures))
