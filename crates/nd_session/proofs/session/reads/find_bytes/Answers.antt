use Rattle.std.proofs.Common.{◌∙◌, ap, cond, sym, slice_index, Some, None, add-one, arith}
use Rattle.nd_marks.specs.Marks.{holds}
use Rattle.nd_model.specs.Arrays.Value.{same_base}
use Rattle.nd_heap.specs.Values.{base_of}
use Rattle.nd_session.specs.Session.Kept.{version_of}
use Rattle.nd_session.specs.Session.Found.{by_base, byte_found, bytes_of}
use Rattle.nd_session.proofs.session.Reading.{bytes_noted, all_marked}
use Rattle.nd_session.proofs.session.reads.find_bytes.Goals as goal

pub loop-i-preserved : goal.loop-i-preserved
loop-i-preserved c = λ b p. rw add-one (bytes_noted (version_of c.args.before.now).bytes (by_base bytes_of c.loop-i.reads.entries) (by_base bytes_of c.note_bytes.new.found.entries)
    c.args.used.now.entries c.loop-i.i (c.in-Some.base.now, c.in-Some.marks.now) b p (sym c.in-Some.ensures.entry) c.in-Some.ensures.value (c.in_ok-note_bytes.ensures b p ∙ ap (λ bs. cond (same_base b (base_of c.in-Some.base.now)) (cond (holds c.in-Some.marks.now p) (Some (slice_index bs p)) None) (byte_found c.loop-i.reads.entries b p)) c.in_ok-block.ensures) (c.loop-i.invariant b p))

pub returns : goal.returns
returns c = λ b p. c.loop-i.invariant b p ∙ ap (λ h. cond h (Some (slice_index ((version_of c.args.before.now).bytes b) p)) None)
    (all_marked c.args.used.now.entries c.loop-i.i (omega (arith, c.loop-i-test.false, c.len-i-end.ensures.len)) b p)
