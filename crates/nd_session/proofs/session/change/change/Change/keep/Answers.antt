use Rattle.std.proofs.Common.{◌∙◌, ◌&&◌, List, None, cond, map, nat_eq, option_map, refl, sym, ap, subst}
use Rattle.std.specs.Prelude.{IsTrue, is_some}
use Rattle.nd_change.specs.Steps.{Keeps}
use Rattle.nd_change.specs.Whole.{Whole, binds_in, whole_of}
use Rattle.nd_change.proofs.Whole.{keeps_whole}
use Rattle.nd_heap.specs.Contents.{blocks_of}
use Rattle.nd_model.specs.Cells.Footprint.{patched}
use Rattle.nd_model.specs.Cells.Running.{is_touched}
use Rattle.nd_session.specs.Session.Change.{ChangeData, HasDone, change_of, whole_in}
use Rattle.nd_session.specs.Session.Now.{block_now, data_in, entry_now, part_now, value_now}
use Rattle.nd_session.specs.Session.Changes.{ChangesData, writes_in}
use Rattle.nd_session.specs.Session.Found.{by_base, bytes_of}
use Rattle.nd_session.proofs.session.Dropping.{block_out, fewer_bytes, fewer_left, other_bytes, part_out, without_done}
use Rattle.nd_session.proofs.session.change.change.Change.keep.Goals as goal
use Rattle.nd_trace.specs.declared.trace.Event.{Event}
use Rattle.nd_trace.specs.Events.{event_of}

pub returns-clause-keeps : goal.returns-clause-keeps
returns-clause-keeps c = λ r done.
    let i = c.changes.inside in
    let d : ChangesData = record { label = i.label; next = i.next; events = map event_of i.events.items; written = by_base bytes_of i.written.entries; blocks = blocks_of i.blocks.entries } in
    let old : Whole = whole_in (data_in c.self.inside) in
    let new : Whole = record { names = value_now c.remove_names.new.names.entries; inputs = old.inputs; rule = old.rule; blocks = block_now c.patch_blocks.new.blocks.entries; bytes = part_now c.overwrite_parts.new.parts.entries } in
    let did : HasDone d r = subst (λ (k : ChangesData). HasDone k r) (sym c.changes.view_is) done in
    subst (λ (o : ChangeData). Keeps (change_of o) (whole_of new) r) c.self.view_is (keeps_whole r old new (without_done r d old new did
    (λ n. c.remove_names.ensures n ∙ ap (λ (es : List Event). cond (is_touched n (map event_of es)) None (old.names n)) c.deref.ensures.value)
    (λ n. refl) refl
    (λ b. c.in_ok-patch_blocks.ensures b ∙ ap (option_map (patched (writes_in d b))) (block_out c.self.inside.blocks.entries c.remove_own.new.blocks.entries (nat_eq b.label i.label && binds_in b (map event_of i.events.items)) b (c.remove_own.ensures b ∙ ap (λ (es : List Event). cond (nat_eq b.label i.label && binds_in b (map event_of es)) None (entry_now c.self.inside.blocks.entries b)) c.deref-2.ensures.value)))
    (λ b p. other_bytes (writes_in d b) (part_now c.remove_own-2.new.blocks.entries b) (new.bytes b) (λ p. cond (nat_eq b.label i.label && binds_in b (map event_of i.events.items)) None (old.bytes b p)) (new.bytes b) p
    (part_out c.self.inside.parts.entries c.remove_own-2.new.blocks.entries (nat_eq b.label i.label && binds_in b (map event_of i.events.items)) b p (c.remove_own-2.ensures b ∙ ap (λ (es : List Event). cond (nat_eq b.label i.label && binds_in b (map event_of es)) None (entry_now c.self.inside.parts.entries b)) c.deref-3.ensures.value)) refl
    (c.in_ok-overwrite_parts.ensures b p))))

pub returns-clause-fewer : goal.returns-clause-fewer
returns-clause-fewer c = λ k.
    let i = c.changes.inside in
    let d : ChangesData = record { label = i.label; next = i.next; events = map event_of i.events.items; written = by_base bytes_of i.written.entries; blocks = blocks_of i.blocks.entries } in
    let old : Whole = whole_in (data_in c.self.inside) in
    let new : Whole = record { names = value_now c.remove_names.new.names.entries; inputs = old.inputs; rule = old.rule; blocks = block_now c.patch_blocks.new.blocks.entries; bytes = part_now c.overwrite_parts.new.parts.entries } in
    subst (λ (o : ChangeData). IsTrue (is_some (whole_of new k)) → IsTrue (is_some (change_of o k))) c.self.view_is
    (fewer_left old new (λ n. is_touched n (map event_of i.events.items)) (λ b. nat_eq b.label i.label && binds_in b (map event_of i.events.items)) (λ b. patched (writes_in d b))
    (λ n. c.remove_names.ensures n ∙ ap (λ (es : List Event). cond (is_touched n (map event_of es)) None (old.names n)) c.deref.ensures.value)
    (λ n. refl) refl
    (λ b. c.in_ok-patch_blocks.ensures b ∙ ap (option_map (patched (writes_in d b))) (block_out c.self.inside.blocks.entries c.remove_own.new.blocks.entries (nat_eq b.label i.label && binds_in b (map event_of i.events.items)) b (c.remove_own.ensures b ∙ ap (λ (es : List Event). cond (nat_eq b.label i.label && binds_in b (map event_of es)) None (entry_now c.self.inside.blocks.entries b)) c.deref-2.ensures.value)))
    (λ b p. fewer_bytes (writes_in d b) (nat_eq b.label i.label && binds_in b (map event_of i.events.items)) (old.bytes b) (new.bytes b) p (other_bytes (writes_in d b) (part_now c.remove_own-2.new.blocks.entries b) (new.bytes b) (λ p. cond (nat_eq b.label i.label && binds_in b (map event_of i.events.items)) None (old.bytes b p)) (new.bytes b) p
    (part_out c.self.inside.parts.entries c.remove_own-2.new.blocks.entries (nat_eq b.label i.label && binds_in b (map event_of i.events.items)) b p (c.remove_own-2.ensures b ∙ ap (λ (es : List Event). cond (nat_eq b.label i.label && binds_in b (map event_of es)) None (entry_now c.self.inside.parts.entries b)) c.deref-3.ensures.value)) refl
    (c.in_ok-overwrite_parts.ensures b p))) k)
