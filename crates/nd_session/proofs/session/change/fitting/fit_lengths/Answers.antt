use Rattle.std.proofs.Common.{◌∙◌, sym, refl, arith, length, option_map}
use Rattle.nd_heap.specs.Values.{base_of}
use Rattle.nd_session.specs.Session.Change.{FitsAt}
use Rattle.nd_session.specs.Session.Now.{block_now}
use Rattle.nd_session.specs.Session.Reading.{length_at}
use Rattle.nd_session.proofs.session.Agreeing.{false_true}
use Rattle.nd_session.proofs.session.Fitting.{IsLengthFit}
use Rattle.nd_heap.proofs.Entries.{all_more, all_of}
use Rattle.nd_session.proofs.session.Reading.{base_all, base_entry}
use Rattle.nd_session.proofs.session.change.fitting.fit_lengths.Goals as goal

pub returns-then-not-fits_length : goal.returns-then-not-fits_length
returns-then-not-fits_length c = (
  false_true,
  λ all. sym c.if-not-fits_length.true ∙ c.fits_length.ensures.1
      (all (base_of c.in-Some.base.now) c.in-Some.count.now (base_entry length_at c.in-Some.base.now c.in-Some.count.now c.args.reads.now.entries c.in-Some.ensures.value)),
)

pub loop-i-preserved : goal.loop-i-preserved
loop-i-preserved c = all_more (IsLengthFit (block_now c.args.blocks.now.entries)) c.args.reads.now.entries c.loop-i.i (c.in-Some.base.now, c.in-Some.count.now) (sym c.in-Some.ensures.entry)
    (c.fits_length.ensures.0 c.if-not-fits_length.false) c.loop-i.invariant

pub returns : goal.returns
returns c =
    let now = block_now c.args.blocks.now.entries in (
      λ yes. base_all length_at (λ b n. FitsAt (option_map length (now b)) n) c.args.reads.now.entries
          (all_of (IsLengthFit now) c.args.reads.now.entries c.loop-i.i (omega (arith, c.loop-i-test.false, c.len-i-end.ensures.len)) c.loop-i.invariant),
      λ all. refl,
    )
