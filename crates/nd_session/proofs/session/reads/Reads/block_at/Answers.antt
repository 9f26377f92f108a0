use Rattle.std.proofs.Common.{◌≡◌, ◌∙◌, length, slice_get, option_map, sym, ap, arith}
use Rattle.nd_model.specs.Arrays.Value as values
use Rattle.nd_heap.proofs.Plain.{false_true}
use Rattle.nd_session.specs.Session.Found.{Found, bytes_of}
use Rattle.nd_session.specs.Session.Reads.{ReadsData}
use Rattle.nd_session.proofs.session.Reading.{base_at, length-by_base}
use Rattle.nd_session.proofs.session.reads.Reads.block_at.Goals as goal

pub unreachable-requires : goal.unreachable-requires
unreachable-requires c =
    let es = c.self.inside.bytes.entries in
    let all : length c.args.self.now.bytes ≡ length es = sym (ap (λ (d : ReadsData). length d.bytes) c.self.view_is) ∙ length-by_base bytes_of es in
    false_true (c.in_default.ensures.found.1 (omega (arith, c.requires, all)))

pub returns : goal.returns
returns c =
    let es = c.self.inside.bytes.entries in
    let first = λ (e : values.Base × Found). e.0 in
    ap (λ (d : ReadsData). option_map first (slice_get d.bytes c.args.place)) (sym c.self.view_is)
    ∙ ap (option_map first) (base_at bytes_of es c.args.place (c.in-Some.base.now, c.in-Some.field-0-1.now) (sym c.in-Some.ensures.entry))
