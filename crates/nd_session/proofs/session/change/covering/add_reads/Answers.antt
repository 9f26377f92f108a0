use Rattle.std.proofs.Common.{sym, subst, string_bytes, ℕ, String, Global, Option}
use Rattle.std.specs.Prelude.{IsTrue}
use Rattle.std.specs.declared.rc.Rc.{Rc}
use Rattle.std.proofs.lemmas.List.Elements.{recursion_from_All}
use Rattle.nd_heap.specs.declared.value.Base.{Base}
use Rattle.nd_heap.specs.declared.value.Value.{Value}
use Rattle.nd_model.specs.Cells.Running as running
use Rattle.nd_input.specs.declared.Input.{Input}
use Rattle.nd_session.specs.declared.session.found.FoundBytes.{FoundBytes}
use Rattle.nd_session.specs.Session.Filter.{CoversFound, CoversLength, FilterData, covers}
use Rattle.nd_session.specs.Session.Found.{bytes_of}
use Rattle.nd_session.specs.Session.Reads.{ReadsData, keys_of}
use Rattle.nd_session.proofs.session.Covering.{found_stays, length_stays, read_covered, rec_weaker, stays_on}
use Rattle.nd_session.proofs.session.change.covering.add_reads.Goals as goal

abbrev IsName : FilterData → String Global × Option (Rc Value Global) → Type 0
IsName ws e = IsTrue (covers ws (running.Name (string_bytes e.0)))

abbrev IsInput : FilterData → String Global × Option (Rc Input Global) → Type 0
IsInput ws e = IsTrue (covers ws (running.Input (string_bytes e.0)))

abbrev IsLength : FilterData → Base × ℕ → Type 0
IsLength ws e = CoversLength ws e.0.label

abbrev IsByte : FilterData → Base × FoundBytes → Type 0
IsByte ws e = CoversFound ws e.0.label (bytes_of e.1)

pub returns-clause-added : goal.returns-clause-added
returns-clause-added c = λ k there.
    let i = c.reads.inside in
    let one = c.add_names.new.filter in
    let two = c.add_inputs.new.filter in
    let three = c.add_lengths.new.filter in
    let read = c.add_found.new.filter in
    let four = c.add_some_rule.new.filter in
    let ruled = c.add_some_rule.ensures.stays in
    let last = stays_on three read four c.add_found.ensures.stays ruled in
    let two_on = stays_on two three four c.add_lengths.ensures.stays last in
    let one_on = stays_on one two four c.add_inputs.ensures.stays two_on in
    read_covered i four
    (rec_weaker (IsName one) (IsName four) (λ e h. one_on (running.Name (string_bytes e.0)) h) i.names.entries (recursion_from_All (IsName one) i.names.entries c.add_names.ensures.added))
    (rec_weaker (IsInput two) (IsInput four) (λ e h. two_on (running.Input (string_bytes e.0)) h) i.inputs.entries (recursion_from_All (IsInput two) i.inputs.entries c.add_inputs.ensures.added))
    (rec_weaker (IsLength three) (IsLength four) (λ e h. length_stays three four e.0.label last h) i.lengths.entries (recursion_from_All (IsLength three) i.lengths.entries c.add_lengths.ensures.added))
    (rec_weaker (IsByte read) (IsByte four) (λ e h. found_stays read four e.0.label (bytes_of e.1) ruled h) i.bytes.entries (recursion_from_All (IsByte read) i.bytes.entries c.add_found.ensures.added))
    c.add_some_rule.ensures.added k
    (subst (λ (r : ReadsData). IsTrue (keys_of r k)) (sym c.reads.view_is) there)
