use Rattle.std.proofs.Common.{◌∙◌, sym, refl, arith}
use Rattle.nd_heap.specs.Values.{base_of}
use Rattle.nd_session.specs.Session.Change.{HasFound}
use Rattle.nd_session.specs.Session.Now.{block_now, part_now}
use Rattle.nd_session.specs.Session.Found.{bytes_of}
use Rattle.nd_session.proofs.session.Agreeing.{false_true}
use Rattle.nd_session.proofs.session.Fitting.{AreBytesFit}
use Rattle.nd_heap.proofs.Entries.{all_more, all_of}
use Rattle.nd_session.proofs.session.Reading.{base_all, base_entry}
use Rattle.nd_session.proofs.session.change.fitting.fit_bytes.Goals as goal

pub returns-then-not-fits_bytes : goal.returns-then-not-fits_bytes
returns-then-not-fits_bytes c = (
  false_true,
  λ all. sym c.if-not-fits_bytes.true ∙ c.fits_bytes.ensures.1
      (all (base_of c.in-Some.base.now) (bytes_of c.in-Some.found.now) (base_entry bytes_of c.in-Some.base.now c.in-Some.found.now c.args.reads.now.entries c.in-Some.ensures.value)),
)

pub loop-i-preserved : goal.loop-i-preserved
loop-i-preserved c = all_more (AreBytesFit (block_now c.args.blocks.now.entries) (part_now c.args.parts.now.entries)) c.args.reads.now.entries c.loop-i.i (c.in-Some.base.now, c.in-Some.found.now) (sym c.in-Some.ensures.entry)
    (c.fits_bytes.ensures.0 c.if-not-fits_bytes.false) c.loop-i.invariant

pub returns : goal.returns
returns c =
    let now = block_now c.args.blocks.now.entries in
    let bytes = part_now c.args.parts.now.entries in (
      λ yes. base_all bytes_of (λ b e. HasFound (now b) (bytes b) e) c.args.reads.now.entries
          (all_of (AreBytesFit now bytes) c.args.reads.now.entries c.loop-i.i (omega (arith, c.loop-i-test.false, c.len-i-end.ensures.len)) c.loop-i.invariant),
      λ all. refl,
    )
