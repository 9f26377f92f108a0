use Rattle.std.proofs.Common.{ℕ, List, Option, refl, ap, subst}
use Rattle.nd_change.specs.Steps.{Follows}
use Rattle.nd_change.specs.Whole.{Whole, whole_of}
use Rattle.nd_change.proofs.Whole.{follows_whole}
use Rattle.nd_model.specs.Arrays.Value as values
use Rattle.nd_model.specs.Cells.Running as running
use Rattle.nd_model.specs.Cells.Session as model
use Rattle.nd_session.specs.Session.Change.{ChangeData, IsCarriedPast, change_of, whole_in}
use Rattle.nd_session.specs.Session.Now.{block_now, data_in, part_now, value_now}
use Rattle.nd_session.specs.Session.Changes.{ChangesData}
use Rattle.nd_session.specs.Session.Live.{live}
use Rattle.nd_session.proofs.session.Carrying.{names_behind, with_both}
use Rattle.nd_session.proofs.session.change.change.Change.follow.Goals as goal

pub returns : goal.returns
returns c = λ r q j was is.
    let s = running.session_of (live c.args.session.now) in
    let now : List ℕ → Option values.Value = λ n. model.lookup n s.names in
    let old : Whole = whole_in (data_in c.self.inside) in
    let mid : Whole = record { names = value_now c.note_names.new.names.entries; inputs = old.inputs; bytes = part_now c.note_blocks.new.parts.entries; rule = old.rule; blocks = block_now c.note_blocks.new.blocks.entries } in
    let new : Whole = record { names = value_now c.note_names-2.new.names.entries; inputs = old.inputs; bytes = part_now c.note_blocks-2.new.parts.entries; rule = old.rule; blocks = block_now c.note_blocks-2.new.blocks.entries } in
    let three : (b : values.Base) → IsCarriedPast s.bytes c.args.old.now c.args.new.now.label old.blocks mid.blocks old.bytes mid.bytes b
    = subst (λ (l : ℕ). (b : values.Base) → IsCarriedPast s.bytes c.args.old.now l old.blocks mid.blocks old.bytes mid.bytes b) (ap (λ (d : ChangesData). d.label) c.new.view_is) c.in_ok-note_blocks.ensures in
    let four : (b : values.Base) → IsCarriedPast s.bytes c.args.new.now c.args.old.now.label mid.blocks new.blocks mid.bytes new.bytes b
    = subst (λ (l : ℕ). (b : values.Base) → IsCarriedPast s.bytes c.args.new.now l mid.blocks new.blocks mid.bytes new.bytes b) (ap (λ (d : ChangesData). d.label) c.old.view_is) c.in_ok-note_blocks-2.ensures in
    subst (λ (o : ChangeData). Follows (change_of o) (whole_of new) r q (model.collected s) j) c.self.view_is
    (follows_whole r q (model.collected s) j old new (with_both s old mid new r q c.args.old.now c.args.new.now was is three four
    (names_behind now old.names mid.names c.old.inside.events.items c.deref-2.result.now c.args.old.now.events c.deref-2.ensures.value (ap (λ (d : ChangesData). d.events) c.old.view_is)
    c.in_ok-note_names.ensures.noted c.in_ok-note_names.ensures.all)
    (names_behind now mid.names new.names c.new.inside.events.items c.deref-3.result.now c.args.new.now.events c.deref-3.ensures.value (ap (λ (d : ChangesData). d.events) c.new.view_is)
    c.in_ok-note_names-2.ensures.noted c.in_ok-note_names-2.ensures.all)
    (λ n. refl) refl))
