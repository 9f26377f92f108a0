use Rattle.std.proofs.Common.{◌≡◌, ◌∙◌, ◌||◌, ◌&&◌, false, not, nat_eq, refl, ap, arith}
use Rattle.std.proofs.lemmas.Bool.Decides.{nat_tests}
use Rattle.std.specs.List.{flat_map}
use Rattle.nd_model.specs.Arrays.Value.{same_base}
use Rattle.nd_model.specs.Arrays.View.{element_places}
use Rattle.nd_model.specs.Cells.Session.{is_in}
use Rattle.nd_model.specs.Cells.Running as running
use Rattle.nd_types.specs.Types.{type_of}
use Rattle.nd_heap.specs.Values.{base_of}
use Rattle.nd_heap.proofs.Bases.{at_err, on_err}
use Rattle.nd_trace.specs.Contents.{marks_of}
use Rattle.nd_trace.specs.Events.{seen_in}
use Rattle.nd_trace.specs.Marked.{is_marked}
use Rattle.nd_trace.specs.Seen.{Seen, is_written}
use Rattle.nd_trace.specs.Traced.{trace_of}
use Rattle.nd_trace.proofs.Noting.{same_used}
use Rattle.nd_trace.proofs.Traces.{uses}
use Rattle.nd_trace.proofs.trace.Trace.note_elements.Goals as goal

pub returns-clause-after : goal.returns-clause-after
returns-clause-after c =
    let t = seen_in c.self.inside in
    let b = c.args.base in
    let ps = flat_map (element_places (type_of c.args.elem.now)) c.args.places.now in
    let other : nat_eq b.label t.label ≡ false = grind (arith, nat_tests, c.if-base-self.false) in
    uses t b ps (marks_of c.join_elements.new.marked.entries) (is_written t (base_of b)) other (λ p. refl)
    (λ d p. c.in_ok-join_elements.ensures.ok d p ∙ ap (λ e. is_marked t.used d p || (same_base (base_of b) d && (is_in p ps && not e))) (c.marks_in-written.ensures p))
    ∙ ap (λ (t : Seen). running.having_read (running.is_byte (base_of b) ps) (trace_of t)) c.self.view_is

pub returns-in_err-join_elements-clause-err : goal.returns-in_err-join_elements-clause-err
returns-in_err-join_elements-clause-err c =
    let t = seen_in c.self.inside in
    on_err _ (ap (λ f. record (trace_of t) { read = f }) (same_used t.looked t.asked t.lengths t.used (marks_of c.join_elements.new.marked.entries) (at_err _ _ c.in_err-join_elements.was c.join_elements.ensures.err))
    ∙ ap trace_of c.self.view_is)
