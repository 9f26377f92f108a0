use Rattle.std.proofs.Common.{◌≡◌, ◌∙◌, ap, sym, refl, arith, length}
use Rattle.nd_model.specs.Cells.Session as model
use Rattle.nd_model.specs.Cells.Running as running
use Rattle.nd_session.specs.Session.Live.{live}
use Rattle.nd_session.specs.Session.Reading.{length_at}
use Rattle.nd_heap.specs.Values.{base_of}
use Rattle.nd_session.proofs.session.Agreeing.{IsLengthFound, false_true}
use Rattle.nd_heap.proofs.Entries.{all_more, all_of}
use Rattle.nd_session.proofs.session.Reading.{base_all, base_entry}
use Rattle.nd_session.proofs.session.reads.have_same_lengths.Goals as goal

pub returns-then-count-held_bytes : goal.returns-then-count-held_bytes
returns-then-count-held_bytes c = (
  false_true,
  λ all. absurd (c.if-count-held_bytes.true (all (base_of c.in-Some.base.now) c.in-Some.count.now (base_entry length_at c.in-Some.base.now c.in-Some.count.now c.args.reads.now.entries c.in-Some.ensures.value)
      ∙ sym (ap length c.held_bytes.ensures))),
)

pub loop-i-preserved : goal.loop-i-preserved
loop-i-preserved c = all_more (IsLengthFound (running.session_of (live c.args.session.now))) c.args.reads.now.entries c.loop-i.i (c.in-Some.base.now, c.in-Some.count.now) (sym c.in-Some.ensures.entry)
    (c.if-count-held_bytes.false ∙ ap length c.held_bytes.ensures) c.loop-i.invariant

pub returns : goal.returns
returns c =
    let s = running.session_of (live c.args.session.now) in (
      λ yes. base_all length_at (λ b n. n ≡ length (model.held_bytes s b)) c.args.reads.now.entries
          (all_of (IsLengthFound s) c.args.reads.now.entries c.loop-i.i (omega (arith, c.loop-i-test.false, c.len-i-end.ensures.len)) c.loop-i.invariant),
      λ all. refl,
    )
