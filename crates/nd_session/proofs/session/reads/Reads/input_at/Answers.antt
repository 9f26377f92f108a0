use Rattle.std.proofs.Common.{◌≡◌, ◌∙◌, ℕ, List, Option, Some, length, slice_get, option_map, sym, ap, arith}
use Rattle.nd_model.specs.Cells.Running.{Source}
use Rattle.nd_heap.proofs.Plain.{false_true}
use Rattle.nd_session.specs.Session.Reading.{source_at}
use Rattle.nd_session.specs.Session.Reads.{ReadsData}
use Rattle.nd_session.proofs.session.Reading.{text_at, length-by_text}
use Rattle.nd_session.proofs.session.reads.Reads.input_at.Goals as goal

pub unreachable-requires : goal.unreachable-requires
unreachable-requires c =
    let es = c.self.inside.inputs.entries in
    let all : length c.args.self.now.inputs ≡ length es = sym (ap (λ (d : ReadsData). length d.inputs) c.self.view_is) ∙ length-by_text source_at es in
    false_true (c.in_default.ensures.found.1 (omega (arith, c.requires, all)))

pub returns : goal.returns
returns c =
    let es = c.self.inside.inputs.entries in
    let first = λ (e : List ℕ × Option Source). e.0 in
    ap (λ (d : ReadsData). option_map first (slice_get d.inputs c.args.place)) (sym c.self.view_is)
    ∙ ap (option_map first) (text_at source_at es c.args.place (c.in-Some.name.now, c.in-Some.field-0-1.now) (sym c.in-Some.ensures.entry))
    ∙ ap Some (sym c.as_str.ensures.value)
