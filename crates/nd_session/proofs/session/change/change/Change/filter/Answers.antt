use Rattle.std.proofs.Common.{subst, ℕ, List, Global, Option}
use Rattle.std.specs.Prelude.{IsTrue}
use Rattle.std.specs.Rc.{rc_str_bytes}
use Rattle.std.specs.declared.rc.Rc.{Rc}
use Rattle.std.specs.declared.rc.RcStr.{RcStr}
use Rattle.std.proofs.lemmas.List.Elements.{recursion_from_All}
use Rattle.nd_session.specs.Session.Change.{ChangeData, change_of}
use Rattle.nd_change.specs.Steps.{IsWordOfChange}
use Rattle.nd_heap.specs.declared.value.Base.{Base}
use Rattle.nd_marks.specs.Kept.{KeptData}
use Rattle.nd_heap.specs.declared.value.Value.{Value}
use Rattle.nd_model.specs.Cells.Running as running
use Rattle.nd_input.specs.declared.Input.{Input}
use Rattle.nd_session.specs.Session.Filter.{CoversKept, CoversLabel, FilterData, covers}
use Rattle.nd_session.proofs.session.Covering.{changed_covered, kept_stays, label_stays, rec_weaker, stays_on}
use Rattle.nd_session.proofs.session.change.change.Change.filter.Goals as goal

abbrev IsName : FilterData → RcStr Global × Option (Rc Value Global) → Type 0
IsName ws e = IsTrue (covers ws (running.Name (rc_str_bytes e.0)))

abbrev IsInput : FilterData → RcStr Global × Option (Rc Input Global) → Type 0
IsInput ws e = IsTrue (covers ws (running.Input (rc_str_bytes e.0)))

abbrev IsBlock : FilterData → Base × Option (Rc (List ℕ) Global) → Type 0
IsBlock ws e = CoversLabel ws e.0.label

abbrev IsPart : FilterData → Base × Rc KeptData Global → Type 0
IsPart ws e = CoversKept ws e.0.label e.1.value

pub returns : goal.returns
returns c =
    let i = c.self.inside in
    let one = c.add_changed_names.new.filter in
    let two = c.add_changed_inputs.new.filter in
    let blocks = c.add_labels.new.filter in
    let parts = c.add_parts.new.filter in
    let three = c.add_some_rule.new.filter in
    let ruled = c.add_some_rule.ensures.stays in
    let later = stays_on blocks parts three c.add_parts.ensures.stays ruled in
    let last = stays_on two blocks three c.add_labels.ensures.stays later in
    let one_on = stays_on one two three c.add_changed_inputs.ensures.stays last in
    subst (λ (d : ChangeData). IsWordOfChange covers three (change_of d)) c.self.view_is (changed_covered i three
    (rec_weaker (IsName one) (IsName three) (λ e h. one_on (running.Name (rc_str_bytes e.0)) h) i.names.entries (recursion_from_All (IsName one) i.names.entries c.add_changed_names.ensures.added))
    (rec_weaker (IsInput two) (IsInput three) (λ e h. last (running.Input (rc_str_bytes e.0)) h) i.inputs.entries (recursion_from_All (IsInput two) i.inputs.entries c.add_changed_inputs.ensures.added))
    (rec_weaker (IsBlock blocks) (IsBlock three) (λ e h. label_stays blocks three e.0.label later h) i.blocks.entries (recursion_from_All (IsBlock blocks) i.blocks.entries c.add_labels.ensures.added))
    (rec_weaker (IsPart parts) (IsPart three) (λ e h. kept_stays parts three e.0.label e.1.value ruled h) i.parts.entries (recursion_from_All (IsPart parts) i.parts.entries c.add_parts.ensures.added))
    c.add_some_rule.ensures.added)
