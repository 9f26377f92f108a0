use Rattle.std.proofs.Common.{◌≡◌, ◌∙◌, map, sym, ap, ap₂}
use Rattle.nd_model.specs.Cells.Storing.{having_written}
use Rattle.nd_marks.specs.Marks.{holds}
use Rattle.nd_heap.specs.Values.{base_of}
use Rattle.nd_heap.proofs.Bases.{at_err, on_err}
use Rattle.nd_trace.specs.Contents.{marks_of}
use Rattle.nd_trace.specs.Events.{seen_in}
use Rattle.nd_trace.specs.Noted.{unread_base, with_length}
use Rattle.nd_trace.specs.Seen.{Seen}
use Rattle.nd_trace.specs.Traced.{trace_of}
use Rattle.nd_trace.proofs.Noting.{same_marks}
use Rattle.nd_trace.proofs.Traces.{writes}
use Rattle.nd_trace.proofs.trace.Trace.write_marks.Goals as goal

pub returns-clause-after : goal.returns-clause-after
returns-clause-after c = λ ps is.
    let t = seen_in c.self.inside in
    let b = base_of c.args.base in
    let long : map base_of c.add_length.new.lengths.keys ≡ with_length (unread_base t b) t.lengths
    = c.add_length.ensures ∙ ap₂ (λ u ks. with_length u (map base_of ks)) (c.unread-unread.ensures.base ∙ ap (λ (t : Seen). unread_base t b) (sym c.self.view_is)) c.make_room.ensures.same in
    writes t b ps (holds c.args.marks) (marks_of c.join.new.marked.entries) (map base_of c.add_length.new.lengths.keys) is c.in_ok-join.ensures.ok long
    ∙ ap (λ (t : Seen). having_written b ps (trace_of t)) c.self.view_is

pub returns-in_err-join-clause-err : goal.returns-in_err-join-clause-err
returns-in_err-join-clause-err c =
    let t = seen_in c.self.inside in
    on_err _ (
    ap₂ (λ w ks. record (trace_of (record t { lengths = map base_of ks })) { written = w }) (same_marks t.written (marks_of c.join.new.marked.entries) (at_err _ _ c.in_err-join.was c.join.ensures.err)) c.make_room.ensures.same
    ∙ ap trace_of c.self.view_is)
