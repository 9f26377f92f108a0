use Rattle.std.proofs.Common.{◌≡◌, ◌∙◌, ◌&&◌, not, map, sym, ap, ap₂}
use Rattle.std.specs.List.{flat_map}
use Rattle.nd_model.specs.Arrays.View.{element_places}
use Rattle.nd_model.specs.Cells.Session.{is_in}
use Rattle.nd_model.specs.Cells.Storing.{having_written}
use Rattle.nd_types.specs.Types.{type_of}
use Rattle.nd_marks.specs.Marks.{holds}
use Rattle.nd_heap.specs.Values.{base_of}
use Rattle.nd_heap.proofs.Bases.{at_err, on_err}
use Rattle.nd_trace.specs.Contents.{marks_of}
use Rattle.nd_trace.specs.Events.{seen_in}
use Rattle.nd_trace.specs.Noted.{unread_base, with_length}
use Rattle.nd_trace.specs.Seen.{Seen}
use Rattle.nd_trace.specs.Traced.{trace_of}
use Rattle.nd_trace.proofs.Noting.{same_marks}
use Rattle.nd_trace.proofs.Traces.{and_true, writes}
use Rattle.nd_trace.proofs.trace.Trace.write_elements.Goals as goal

pub returns-clause-after : goal.returns-clause-after
returns-clause-after c =
    let t = seen_in c.self.inside in
    let b = base_of c.args.base in
    let ps = flat_map (element_places (type_of c.args.elem.now)) c.args.places.now in
    let long : map base_of c.add_length.new.lengths.keys ≡ with_length (unread_base t b) t.lengths
    = c.add_length.ensures ∙ ap₂ (λ u ks. with_length u (map base_of ks)) (c.unread-unread.ensures.base ∙ ap (λ (t : Seen). unread_base t b) (sym c.self.view_is)) c.make_room.ensures.same in
    writes t b ps (λ p. is_in p ps && not (holds c.new-nothing.result p)) (marks_of c.join_elements.new.marked.entries) (map base_of c.add_length.new.lengths.keys)
    (λ p. ap (λ e. is_in p ps && not e) (c.new-nothing.ensures p) ∙ sym (and_true (is_in p ps))) c.in_ok-join_elements.ensures.ok long
    ∙ ap (λ (t : Seen). having_written b ps (trace_of t)) c.self.view_is

pub returns-in_err-join_elements-clause-err : goal.returns-in_err-join_elements-clause-err
returns-in_err-join_elements-clause-err c =
    let t = seen_in c.self.inside in
    on_err _ (
    ap₂ (λ w ks. record (trace_of (record t { lengths = map base_of ks })) { written = w }) (same_marks t.written (marks_of c.join_elements.new.marked.entries) (at_err _ _ c.in_err-join_elements.was c.join_elements.ensures.err)) c.make_room.ensures.same
    ∙ ap trace_of c.self.view_is)
