use Rattle.std.proofs.Common.{◌∙◌, ap, sym, refl, arith, slice_index}
use Rattle.nd_model.specs.Cells.Running as running
use Rattle.nd_session.specs.Session.Live.{live}
use Rattle.nd_session.specs.Session.Found.{bytes_of}
use Rattle.nd_heap.specs.Values.{base_of}
use Rattle.nd_session.proofs.session.Agreeing.{AreBytesFound, AreSameBytes, false_true}
use Rattle.nd_heap.proofs.Entries.{all_more, all_of}
use Rattle.nd_session.proofs.session.Reading.{base_all, base_entry}
use Rattle.nd_session.proofs.session.reads.have_same_bytes.Goals as goal

pub returns-then-not-is_found_in : goal.returns-then-not-is_found_in
returns-then-not-is_found_in c = (
  false_true,
  λ all. sym c.if-not-is_found_in.true ∙ c.is_found_in.ensures.1 (λ p n there. ap (λ bs. slice_index bs p) c.held_bytes.ensures
      ∙ all (base_of c.in-Some.base.now) (bytes_of c.in-Some.read.now) (base_entry bytes_of c.in-Some.base.now c.in-Some.read.now c.args.reads.now.entries c.in-Some.ensures.value) p n there),
)

pub loop-i-preserved : goal.loop-i-preserved
loop-i-preserved c = all_more (AreBytesFound (running.session_of (live c.args.session.now))) c.args.reads.now.entries c.loop-i.i (c.in-Some.base.now, c.in-Some.read.now) (sym c.in-Some.ensures.entry)
    (λ p n there. sym (ap (λ bs. slice_index bs p) c.held_bytes.ensures) ∙ c.is_found_in.ensures.0 c.if-not-is_found_in.false p n there) c.loop-i.invariant

pub returns : goal.returns
returns c =
    let s = running.session_of (live c.args.session.now) in (
      λ yes. base_all bytes_of (AreSameBytes s) c.args.reads.now.entries
          (all_of (AreBytesFound s) c.args.reads.now.entries c.loop-i.i (omega (arith, c.loop-i-test.false, c.len-i-end.ensures.len)) c.loop-i.invariant),
      λ all. refl,
    )
