use Rattle.std.proofs.Common.{◌∙◌, cond, nat_eq, None, Some, slice_index, sym, ap, add-one, arith}
use Rattle.std.proofs.lemmas.Bool.Decides.{nat_tests}
use Rattle.nd_marks.specs.Marks.{Places, holds}
use Rattle.nd_model.specs.Arrays.Value.{same_base}
use Rattle.nd_heap.specs.declared.value.Base.{Base}
use Rattle.nd_heap.specs.Live.{bytes_at}
use Rattle.nd_heap.specs.Values.{base_of}
use Rattle.nd_session.specs.Session.Found.{byte_found}
use Rattle.nd_session.proofs.session.Reading.{all_marked}
use Rattle.nd_session.proofs.session.Retaining.{written_more, written_skip}
use Rattle.nd_session.proofs.session.changes.find_written.Goals as goal
use Rattle.nd_session.proofs.session.changes.find_written.Goals.{then-base-label+in_ok-block+in_ok-note_bytes, else-base-label}

pub loop-i-preserved : goal.loop-i-preserved
loop-i-preserved c = λ b p.
    let es = c.args.marked.now.entries in
    let bytes = bytes_at c.args.heap.now.blocks in
    let old = c.loop-i.written.entries in
    let e : Base × Places = (c.in-Some.base.now, c.in-Some.marks.now) in
    rw add-one (elim c.if-base-label.branch [
      | then-base-label+in_ok-block+in_ok-note_bytes w ↦
          ap (λ m. byte_found m.entries b p) w.written-is
          ∙ written_more c.args.label bytes es c.loop-i.i e (sym c.in-Some.ensures.entry) old b p (c.loop-i.invariant b p) (grind (arith, nat_tests, w.if-base-label.true)) c.in-Some.ensures.value
          w.note_bytes.new.found.entries
          (w.in_ok-note_bytes.ensures b p ∙ ap (λ bs. cond (same_base b (base_of e.0)) (cond (holds e.1 p) (Some (slice_index bs p)) None) (byte_found old b p)) w.in_ok-block.ensures)
      | else-base-label w ↦
          ap (λ m. byte_found m.entries b p) w.written-is
          ∙ written_skip c.args.label bytes es c.loop-i.i e (sym c.in-Some.ensures.entry) old b p (c.loop-i.invariant b p) (grind (arith, nat_tests, w.if-base-label.false))
    ])

pub returns : goal.returns
returns c = λ b p. c.loop-i.invariant b p ∙ ap (λ h. cond (nat_eq b.label c.args.label) None (cond h (Some (slice_index (bytes_at c.args.heap.now.blocks b) p)) None))
    (all_marked c.args.marked.now.entries c.loop-i.i (omega (arith, c.loop-i-test.false, c.len-i-end.ensures.len)) b p)
